-- What is answered to words and files: a status and a text.
use Rattle.std.specs.Prelude.{◌≡◌, ◌⊎◌, ℕ, Bool, List, [], Option, Some, Result, IsTrue}
use Rattle.rc_config.specs.declared.network.Network.{Network}
use Rattle.rc_generate.specs.Files.{files}
use Rattle.rc_network.specs.declared.refusal.NetRefusal.{NetRefusal}
use Rattle.rc_outside.specs.Folder.{File}
use Rattle.rc_outside.specs.Sink.{appended}
use Rattle.rc_words.specs.Plain.{CommandName, Use, ArePlain, plain_words, plain_request}
use Rattle.rc_words.specs.Request.{request_of}
use Rattle.rc_words.specs.declared.request.Request.{Request}
use Rattle.rc_words.specs.declared.request.Source.{Source}
use Rattle.rc_words.specs.declared.request.Source.TheVariants.{Folder, Made}
use Rattle.rc_loading.specs.Net.{IsNet}
use Rattle.rc_writing.specs.Written.{IsWritten}
use Rattle.rc_writing.specs.declared.status.Status.TheVariants as status
use Rattle.rc_writing.specs.declared.status.Status.{Status}
use Rattle.rc_analyse.specs.Sound.{IsFoundAs}
use Rattle.rc_answers.specs.Given.{Given}
use Rattle.rc_answers.specs.Subject.{before_rounds}
use Rattle.rc_answers.specs.Texts.{text_of}
use Rattle.rc_answers.specs.Written.{IsGivenBy, NeedsMoreNodes, status_of}
use Rattle.rc_answers.specs.declared.findings.Findings.{Findings}

-- Where the words are plain (a command, its DIR, and options with their values), they ask for what they say, and for the defaults; and
-- for nothing where a place, an address or an ending isn't read.
pub record IsTakenWhenPlain (words : List (List ℕ)) : Type 0 where
  pub taken : (command : CommandName) (dir : List ℕ) (uses : List Use) → ArePlain command dir uses → words ≡ plain_words command dir uses → request_of words ≡ plain_request command dir uses

-- ---- which files are asked about

-- the text of the folder in which they stand; those of a made network stand under the empty text
abbrev pub dir_of : Source → List ℕ
dir_of (Folder dir) = dir
dir_of (Made n) = []

-- the folder that is handed in may be asked for the files under DIR; a made network asks nothing of it
abbrev pub MayAsk : (List ℕ → Bool) → Source → Type 0
MayAsk allows (Folder dir) = IsTrue (allows dir)
MayAsk allows (Made n) = Unit {0}

-- the files, where they are told: those of the folder that is handed in, or those of the made network
abbrev pub files_asked : Source → Option (List File) → Option (List File)
files_asked (Folder dir) told = told
files_asked (Made n) told = Some (files n)

-- ---- what files give to what is asked

-- what files are found to be: what they alone tell of what is asked, as their first refusal, or their network with the outcome of its
-- rounds, and what of it is asked about. The number of workers is no part of it.
abbrev pub AreFound : List File → Request → Findings → Type 0
AreFound files r found = (net : Result Network NetRefusal) × IsNet (dir_of r.source) files net × IsFoundAs r.limits (before_rounds net r.ask) found

pub record IsGiven (files : List File) (r : Request) (g : Given) : Type 0 where
  pub found : Findings
  pub are : AreFound files r found
  pub gives : IsGivenBy found g

-- files are found to be one thing
abbrev pub HasOneFinding : Type 0
HasOneFinding = (files : List File) (r : Request) (this that : Findings) → AreFound files r this → AreFound files r that → this ≡ that

-- the files of a folder give one thing to a request, so their answer is one
abbrev pub HasOneAnswer : Type 0
HasOneAnswer = (files : List File) (r : Request) (this that : Given) → IsGiven files r this → IsGiven files r that → this ≡ that

-- ---- the status and the text

-- What the run may lack. What the files give doesn't decide whether memory runs out.
abbrev pub IsLacking : List File → Request → Status → Type 0
IsLacking files r status.Memory = Unit {0}
IsLacking files r status.Nodes = (f : Findings) × AreFound files r f × NeedsMoreNodes r.limits.nodes f
IsLacking files r _ = ⊥

-- What the files give is written; or nothing is, where reading failed or something is lacking.
abbrev pub IsAnswer : List File → Request → Status → Option (List ℕ) → Option (List ℕ) → Type 0
IsAnswer files r answer old new = ((g : Given) × IsGiven files r g × IsWritten (status_of g) (text_of r g) answer old new) ⊎ ((answer ≡ status.Source) × (new ≡ old)) ⊎ (IsLacking files r answer × (new ≡ old))

-- the statuses with which nothing is written: 5, 6 and 8
abbrev pub IsSilent : Status → Type 0
IsSilent status.Nodes = Unit {0}
IsSilent status.Source = Unit {0}
IsSilent status.Memory = Unit {0}
IsSilent _ = ⊥

-- the text is written whole with its status, unless something is lacking
abbrev pub IsComplete : List File → Request → Status → Option (List ℕ) → Option (List ℕ) → Type 0
IsComplete files r answer old new = IsLacking files r answer ⊎ ((g : Given) × IsGiven files r g × (answer ≡ status_of g) × (new ≡ appended old (text_of r g)))

-- without a fault of the folder or the sink the text is written whole with its status, unless something is lacking
pub record IsCompleteWithout (source sink : Type 0) (files : List File) (r : Request) (answer : Status) (old new : Option (List ℕ)) : Type 0 where
  pub whole : ¬ source → ¬ sink → IsComplete files r answer old new
