-- Whether there is a request, by what clap finds.
use Rattle.std.proofs.Common.{ap, sym, subst, ◌≡◌, ◌≢◌, ◌∙◌, ◌⊎◌, inl, inr, Bool, true, false, List, [], ◌∷◌, refl, Option, Some, None}
use Rattle.clap.specs.Kinds.{Kinds}
use Rattle.clap.specs.Words.{Text, fault_of, subcommand_of}
use Rattle.rc_words.specs.App.{netcheck_app}
use Rattle.rc_words.specs.Laws.{is_sample}
use Rattle.rc_words.specs.Plain.{CommandName, command_word}
use Rattle.rc_words.specs.Request.{without_fault, request_at, request_of, texts_are_read, AreInRange, IsSourceInRange, IsAskInRange, is_made, is_summary}
use Rattle.rc_words.specs.declared.request.Request.{Request}
use Rattle.rc_words.proofs.ByCommand.{rows_of_command}
use Rattle.rc_words.proofs.FirstWord.{first_word}
use Rattle.rc_words.proofs.Matched.{told}
use Rattle.rc_words.proofs.Parts.{made_found}

abbrev found : List Text → Option Request
found words = request_at (subcommand_of netcheck_app words)

some_fault : (ks : Kinds) (o : Option Request) → ks ≢ [] → without_fault ks o ≡ None
some_fault [] o e = absurd (e refl)
some_fault (k ∷ ks) o e = refl

pub when_taken : (words : List Text) → fault_of netcheck_app words ≡ [] → request_of words ≡ request_at (subcommand_of netcheck_app words)
unfolding request_of
when_taken words e = ap (λ ks. without_fault ks (found words)) e

pub when_refused : (words : List Text) → fault_of netcheck_app words ≢ [] → request_of words ≡ None
unfolding request_of
when_refused words e = some_fault (fault_of netcheck_app words) (found words) e

none_there : (ks : Kinds) → (ks ≡ []) ⊎ (ks ≢ [])
none_there [] = inl refl
none_there (k ∷ ks) = inr (λ e. cc)

pub when_unread : (words : List Text) → texts_are_read (subcommand_of netcheck_app words) ≡ false → request_of words ≡ None
when_unread words unread = elim (none_there (fault_of netcheck_app words)) [
  | inl well ↦ when_taken words well ∙ (told words well).unread unread
  | inr fault ↦ when_refused words fault
]

pub none_only : (words : List Text) → request_of words ≡ None → (fault_of netcheck_app words ≢ []) ⊎ (texts_are_read (subcommand_of netcheck_app words) ≡ false)
none_only words none = elim (none_there (fault_of netcheck_app words)) [
  | inl well ↦ inr (go well (texts_are_read (subcommand_of netcheck_app words)) refl)
  | inr fault ↦ inl fault
]
  where
    go : fault_of netcheck_app words ≡ [] → (b : Bool) → texts_are_read (subcommand_of netcheck_app words) ≡ b → b ≡ false
    go well false e = refl
    go well true e =
        let (r, is, limits_in, source_in, ask_in) = (told words well).read e in
        let bad : Some r ≡ None = sym is ∙ sym (when_taken words well) ∙ none in
        absurd (cc)

-- where there is a request, clap found no fault, and the texts are read
some_taken : (words : List Text) (r : Request) → request_of words ≡ Some r → (fault_of netcheck_app words ≡ []) × (texts_are_read (subcommand_of netcheck_app words) ≡ true)
some_taken words r some = elim (none_there (fault_of netcheck_app words)) [
  | inl well ↦ (well, go (texts_are_read (subcommand_of netcheck_app words)) refl)
  | inr fault ↦ let bad : Some r ≡ None = sym some ∙ when_refused words fault in absurd (cc)
]
  where
    go : (b : Bool) → texts_are_read (subcommand_of netcheck_app words) ≡ b → b ≡ true
    go true e = refl
    go false e = let bad : Some r ≡ None = sym some ∙ when_unread words e in absurd (cc)

pub kept_in_range : (words : List Text) (r : Request) → request_of words ≡ Some r → AreInRange r.limits × IsSourceInRange r.source × IsAskInRange r.ask
kept_in_range words r some =
    let (well, texts_read) = some_taken words r some in
    let (q, is, limits_in, source_in, ask_in) = (told words well).read texts_read in
    let same : Some q ≡ Some r = sym is ∙ sym (when_taken words well) ∙ some in
    let same_request : q ≡ r = cc in
    subst (λ (x : Request). AreInRange x.limits × IsSourceInRange x.source × IsAskInRange x.ask) same_request (limits_in, source_in, ask_in)

pub begins_with_command : (words : List Text) (r : Request) → request_of words ≡ Some r → (k : CommandName) × (rest : List Text) × (words ≡ command_word k ∷ rest)
begins_with_command words r some = first_word words (some_taken words r some).0

pub made_by_sample : (k : CommandName) (rest : List Text) (r : Request) → request_of (command_word k ∷ rest) ≡ Some r → (is_made r.source ≡ is_sample k) × (is_summary r.ask ≡ is_sample k)
made_by_sample k rest r some =
    let (well, texts_read) = some_taken (command_word k ∷ rest) r some in
    let (rows, found_is) = rows_of_command k rest in
    made_found k rows r (ap request_at (sym found_is) ∙ sym (when_taken (command_word k ∷ rest) well) ∙ some)

-- a made network is asked for its summary, and a folder's for anything else
pub made_asked : (words : List Text) (r : Request) → request_of words ≡ Some r → is_made r.source ≡ is_summary r.ask
made_asked words r some =
    let (k, rest, is) = begins_with_command words r some in
    let (made, summary) = made_by_sample k rest r (ap request_of (sym is) ∙ some) in
    made ∙ sym summary
