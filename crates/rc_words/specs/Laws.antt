-- What holds of the request that words make.
use Rattle.std.specs.Prelude.{◌≡◌, ◌≢◌, ◌⊎◌, Bool, true, false, List, [], ◌∷◌, Some, None}
use Rattle.clap.specs.Words.{Text, fault_of, subcommand_of}
use Rattle.rc_words.specs.App.{netcheck_app}
use Rattle.rc_words.specs.Plain.{CommandName, sample, Use, ArePlain, command_word, plain_words, plain_request}
use Rattle.rc_words.specs.Request.{request_of, texts_are_read, AreInRange, IsSourceInRange, IsAskInRange, is_made, is_summary}
use Rattle.rc_words.specs.declared.request.Request.{Request}

-- words make no request where clap refuses them or the text of a place, an address or an ending that it found isn't read, and only there
pub record RefusesAsClap : Type 0 where
  pub refused : (words : List Text) → fault_of netcheck_app words ≢ [] → request_of words ≡ None
  pub unread : (words : List Text) → texts_are_read (subcommand_of netcheck_app words) ≡ false → request_of words ≡ None
  pub only : (words : List Text) → request_of words ≡ None → (fault_of netcheck_app words ≢ []) ⊎ (texts_are_read (subcommand_of netcheck_app words) ≡ false)

-- the numbers of each request are in the ranges of their options
abbrev pub KeepsRanges : Type 0
KeepsRanges = (words : List Text) (r : Request) → request_of words ≡ Some r → AreInRange r.limits × IsSourceInRange r.source × IsAskInRange r.ask

-- plain words whose place, addresses and ending are read make the request that they say, and other plain words make none
abbrev pub TakesPlainWords : Type 0
TakesPlainWords = (command : CommandName) (dir : Text) (uses : List Use) → ArePlain command dir uses → request_of (plain_words command dir uses) ≡ plain_request command dir uses

-- words that are taken begin with the name of a command; so no words, `--help` or `help` are not
abbrev pub BeginsWithCommand : Type 0
BeginsWithCommand = (words : List Text) (r : Request) → request_of words ≡ Some r → (command : CommandName) × (rest : List Text) × (words ≡ command_word command ∷ rest)

abbrev pub is_sample : CommandName → Bool
is_sample sample = true
is_sample _ = false

-- `sample` alone makes a network, and it alone asks for the summary
abbrev pub MakesBySample : Type 0
MakesBySample = (command : CommandName) (rest : List Text) (r : Request) → request_of (command_word command ∷ rest) ≡ Some r → (is_made r.source ≡ is_sample command) × (is_summary r.ask ≡ is_sample command)
