-- Without a fault the answer is complete, and plain words are taken.
use Rattle.std.proofs.Common.{refl, ap, sym, subst, ◌∙◌, ◌≡◌, inl, inr, ℕ, Bool, List, Option, Some, None, Result, Ok, Err, IfOk, IfErr, IfSome, IfNone, IsNone}
use Rattle.rc_outside.specs.Folder.{File}
use Rattle.rc_route.specs.declared.outcome.RoundsEnd.TheVariants as rounds_end
use Rattle.rc_words.specs.Laws.{TakesPlainWords}
use Rattle.rc_words.specs.Request.{request_of}
use Rattle.rc_words.specs.declared.request.Request.{Request}
use Rattle.rc_words.specs.declared.request.WordsFault.{WordsFault}
use Rattle.rc_words.specs.declared.request.WordsFault.TheVariants as words
use Rattle.rc_writing.specs.Texts.{usage_text}
use Rattle.rc_writing.specs.Written.{IsWritten, IsWrittenOrMemory}
use Rattle.rc_writing.specs.declared.status.Status.TheVariants.{Done, Refused, Usage, Repeats, Limit, Nodes, Source, Sink, Memory, NoPlace}
use Rattle.rc_writing.specs.declared.status.Status.{Status}
use Rattle.rc_answers.specs.Written.{IsLackingFor, IsPutOf, status_of}
use Rattle.rc_analyse.specs.Answer.{AreFound, MayAsk, files_asked, IsLacking, IsAnswer, IsComplete, IsCompleteWithout, IsTakenWhenPlain}
use Rattle.rc_analyse.specs.Found.{AreFoundFor, IsPutFor}
use Rattle.rc_analyse.specs.declared.found.Found.{Found}
use Rattle.rc_answers.specs.Given.{Given, refused, no_place, idle, ended}
use Rattle.rc_answers.specs.declared.findings.Findings.{Findings}

-- what was found lacks what the run lacks
lacks : (files : List File) (r : Request) (f : Findings) (answer : Status) → AreFound files r f → IsLackingFor r.limits.nodes f answer → IsLacking files r answer
lacks files r f Memory are none = tt
lacks files r f Nodes are more = (f, are, more)
lacks files r f Done are none = none
lacks files r f Refused are none = none
lacks files r f Usage are none = none
lacks files r f Repeats are none = none
lacks files r f Limit are none = none
lacks files r f Source are none = none
lacks files r f Sink are none = none
lacks files r f NoPlace are none = none

-- what files give, written, is an answer
pub answered : (told : Option (List File)) (r : Request) (f : Findings) (answer : Status) (old new : Option (List ℕ))
    → IfSome told (λ files. AreFound files r f) → IsPutOf r f answer old new → IfSome told (λ files. IsAnswer files r answer old new)
answered None r f answer old new are put = tt
answered (Some files) r f answer old new are (inl (g, gives, written)) = inl (g, record { found = f; are = are; gives = gives }, written)
answered (Some files) r f answer old new are (inr (lacking, same)) = inr (inr (lacks files r f answer are lacking, same))

-- so it is with what stands for it
pub answered_for : (told : Option (List File)) (r : Request) (found : Found) (answer : Status) (old new : Option (List ℕ)) → AreFoundFor told r found → IsPutFor r found answer old new → IfSome told (λ files. IsAnswer files r answer old new)
answered_for told r found answer old new (f, stands, are) put = answered told r f answer old new are (put f stands)

-- what files give never has the status of a folder that failed
given_status : (g : Given) → ¬ (status_of g ≡ Source)
given_status (refused refusal) e = cc
given_status no_place e = cc
given_status (idle routers) e = cc
given_status (ended net (rounds_end.Fixed k) shown) e = cc
given_status (ended net (rounds_end.Repeats i k) shown) e = cc
given_status (ended net (rounds_end.Limit n) shown) e = cc

lacking_status : (most : ℕ) (f : Findings) (answer : Status) → IsLackingFor most f answer → ¬ (answer ≡ Source)
lacking_status most f Source lacking e = lacking
lacking_status most f Memory lacking e = cc
lacking_status most f Nodes lacking e = cc
lacking_status most f Done lacking e = cc
lacking_status most f Refused lacking e = cc
lacking_status most f Usage lacking e = cc
lacking_status most f Repeats lacking e = cc
lacking_status most f Limit lacking e = cc
lacking_status most f Sink lacking e = cc
lacking_status most f NoPlace lacking e = cc

pub never_source : (r : Request) (f : Findings) {answer : Status} {old new : Option (List ℕ)} → IsPutOf r f answer old new → ¬ (answer ≡ Source)
never_source r f (inl (g, gives, inl (is, put))) e = given_status g (sym is ∙ e)
never_source r f (inl (g, gives, inr (is, front))) e = let bad : Sink ≡ Source = sym is ∙ e in cc
never_source r f {answer} (inr (lacking, same)) e = lacking_status r.limits.nodes f answer lacking e

pub never_source_for : (told : Option (List File)) (r : Request) (found : Found) {answer : Status} {old new : Option (List ℕ)} → AreFoundFor told r found → IsPutFor r found answer old new → ¬ (answer ≡ Source)
never_source_for told r found (f, stands, are) put = never_source r f (put f stands)

complete : (files : List File) (r : Request) (answer : Status) (old new : Option (List ℕ)) → IsAnswer files r answer old new → ¬ (answer ≡ Source) → ¬ (answer ≡ Sink) → IsComplete files r answer old new
complete files r answer old new (inl (g, given, inl (is, put))) read written = inr (g, given, is, put)
complete files r answer old new (inl (g, given, inr (is, front))) read written = absurd (written is)
complete files r answer old new (inr (inl (is, same))) read written = absurd (read is)
complete files r answer old new (inr (inr (lacking, same))) read written = inl lacking

pub complete_where_told : (told : Option (List File)) (r : Request) (answer : Status) (old new : Option (List ℕ)) {SourceRose SinkRose : Type 0}
    → IfSome told (λ files. IsAnswer files r answer old new) → (answer ≡ Source → SourceRose) → (answer ≡ Sink → SinkRose)
    → IfSome told (λ files. IsCompleteWithout SourceRose SinkRose files r answer old new)
complete_where_told None r answer old new is source sink = tt
complete_where_told (Some files) r answer old new is source sink = record { whole = λ read written. complete files r answer old new is (λ e. read (source e)) (λ e. written (sink e)) }

pub taken_when_plain : TakesPlainWords → (said : List (List ℕ)) → IsTakenWhenPlain said
taken_when_plain law said = record { taken = λ command dir uses plain is. ap request_of is ∙ law command dir uses plain }

-- ---- words, and the request that they make

abbrev Made : Type 0
Made = Result Request WordsFault

-- what holds of the request that was made, and of any where memory was short, holds of what the words ask for
pub of_request : (P : Request → Type 0) (asked : Option Request) (made : Made) → IfOk made (λ r. asked ≡ Some r) → (made ≡ Err words.Usage → asked ≡ None)
    → IfOk made P → (made ≡ Err words.Memory → (r : Request) → P r) → IfSome asked P
of_request P asked (Ok r) taken usage holds short = subst (λ o. IfSome o P) (sym taken) holds
of_request P asked (Err words.Usage) taken usage holds short = subst (λ o. IfSome o P) (sym (usage refl)) tt
of_request P None (Err words.Memory) taken usage holds short = tt
of_request P (Some r) (Err words.Memory) taken usage holds short = short refl r

-- what holds of any request that the words ask for holds of the one that was made
pub of_asked : (P : Request → Type 0) (asked : Option Request) (made : Made) → IfOk made (λ r. asked ≡ Some r) → IfSome asked P → IfOk made P
of_asked P asked (Ok r) taken holds = subst (λ o. IfSome o P) taken holds
of_asked P asked (Err fault) taken holds = tt

pub may_ask : (allows : List ℕ → Bool) (asked : Option Request) (made : Made) → IfOk made (λ r. asked ≡ Some r) → IfSome asked (λ r. MayAsk allows r.source) → IfOk made (λ r. MayAsk allows r.source)
may_ask allows asked made taken holds = of_asked (λ r. MayAsk allows r.source) asked made taken holds

pub usage_put : (asked : Option Request) (made : Made) (answer : Status) (old new : Option (List ℕ)) → IfOk made (λ r. asked ≡ Some r)
    → IfErr made (λ fault. fault ≡ words.Usage → IsWritten Usage usage_text answer old new) → IfErr made (λ fault. fault ≡ words.Memory → (answer ≡ Memory) × (new ≡ old))
    → IfNone asked (IsWrittenOrMemory Usage usage_text answer old new)
usage_put asked (Ok r) answer old new taken usage memory = subst (λ o. IfNone o (IsWrittenOrMemory Usage usage_text answer old new)) (sym taken) tt
usage_put None (Err words.Usage) answer old new taken usage memory = inl (usage refl)
usage_put None (Err words.Memory) answer old new taken usage memory = inr (memory refl)
usage_put (Some r) (Err fault) answer old new taken usage memory = tt

pub usage_alone : (asked : Option Request) (made : Made) (answer : Status) (old new : Option (List ℕ)) → (made ≡ Err words.Usage → asked ≡ None) → IfOk made (λ r. ¬ (answer ≡ Usage))
    → IfErr made (λ fault. fault ≡ words.Memory → (answer ≡ Memory) × (new ≡ old)) → answer ≡ Usage → IsNone asked
usage_alone asked (Ok r) answer old new none never memory is = absurd (never is)
usage_alone asked (Err words.Usage) answer old new none never memory is = subst IsNone (sym (none refl)) refl
usage_alone asked (Err words.Memory) answer old new none never memory is = let bad : Memory ≡ Usage = sym ((memory refl).0) ∙ is in absurd (cc)

-- where memory was short nothing is written, which is an answer
short : (made : Made) (answer : Status) (old new : Option (List ℕ)) → IfErr made (λ fault. fault ≡ words.Memory → (answer ≡ Memory) × (new ≡ old)) → made ≡ Err words.Memory → (answer ≡ Memory) × (new ≡ old)
short (Ok r) answer old new memory is = absurd (cc)
short (Err fault) answer old new memory is = memory (let same : fault ≡ words.Memory = cc in same)

lacks_memory : (files : List File) (r : Request) (answer : Status) → answer ≡ Memory → IsLacking files r answer
lacks_memory files r answer is = subst (IsLacking files r) (sym is) tt

any-told : (P : List File → Type 0) (told : Option (List File)) → ((files : List File) → P files) → IfSome told P
any-told P None holds = tt
any-told P (Some files) holds = holds files

pub answer_of_words : (asked : Option Request) (made : Made) (told : Option (List File)) (answer : Status) (old new : Option (List ℕ)) → IfOk made (λ r. asked ≡ Some r) → (made ≡ Err words.Usage → asked ≡ None)
    → IfErr made (λ fault. fault ≡ words.Memory → (answer ≡ Memory) × (new ≡ old)) → IfOk made (λ r. IfSome (files_asked r.source told) (λ files. IsAnswer files r answer old new))
    → IfSome asked (λ r. IfSome (files_asked r.source told) (λ files. IsAnswer files r answer old new))
answer_of_words asked made told answer old new taken usage memory holds =
    of_request (λ r. IfSome (files_asked r.source told) (λ files. IsAnswer files r answer old new)) asked made taken usage holds
    (λ is r. let (none, same) = short made answer old new memory is in any-told (λ files. IsAnswer files r answer old new) (files_asked r.source told) (λ files. inr (inr (lacks_memory files r answer none, same))))

pub complete_of_words : (asked : Option Request) (made : Made) (told : Option (List File)) (answer : Status) (old new : Option (List ℕ)) (SourceRose SinkRose : Type 0) → IfOk made (λ r. asked ≡ Some r)
    → (made ≡ Err words.Usage → asked ≡ None) → IfErr made (λ fault. fault ≡ words.Memory → (answer ≡ Memory) × (new ≡ old))
    → IfOk made (λ r. IfSome (files_asked r.source told) (λ files. IsCompleteWithout SourceRose SinkRose files r answer old new))
    → IfSome asked (λ r. IfSome (files_asked r.source told) (λ files. IsCompleteWithout SourceRose SinkRose files r answer old new))
complete_of_words asked made told answer old new SourceRose SinkRose taken usage memory holds =
    of_request (λ r. IfSome (files_asked r.source told) (λ files. IsCompleteWithout SourceRose SinkRose files r answer old new)) asked made taken usage holds
    (λ is r. let (none, same) = short made answer old new memory is in any-told (λ files. IsCompleteWithout SourceRose SinkRose files r answer old new) (files_asked r.source told)
    (λ files. record { whole = λ read written. inl (lacks_memory files r answer none) }))
