use Rattle.std.proofs.Common.{rules, ap, sym, ◌≡◌, ◌∙◌, List, [], ◌∷◌, map, ⊎_elim}
use Rattle.std.specs.Borrow.{Bor}
use Rattle.clap.specs.Words.{Text, fault_of, kind_of, is_simple_and_free, is_simple, subcommand_of, Kinds, IsAmong}
use Rattle.rc_words.proofs.Commands.{simple, simple_and_free}
use Rattle.std.proofs.Common.{subst, ◌≢◌}
use Rattle.clap.specs.declared.error.kind.ErrorKind.{ErrorKind}
use Rattle.clap.specs.declared.error.kind.ErrorKind.TheVariants.{OutOfMemory}
use Rattle.rc_words.specs.Faults.{fault_by}
use Rattle.rc_words.specs.declared.request.WordsFault.TheVariants.{Usage, Memory}
use Rattle.rc_words.proofs.reading.matches_of_words.Goals as goal

not_memory : (k : ErrorKind) → fault_by k ≡ Usage → k ≢ OutOfMemory
not_memory k e m = let other : Memory ≡ Usage = subst (λ k. fault_by k ≡ Usage) m e in cc

none_in : (k : _) (ks : Kinds) → IsAmong k ks → ks ≡ [] → ⊥
none_in k [] h e = h
none_in k (x ∷ xs) h e = cc

pub returns-in-Ok-try_get_matches_from-clause-taken : goal.returns-in-Ok-try_get_matches_from-clause-taken
returns-in-Ok-try_get_matches_from-clause-taken c =
    let app = c.in-Ok.ensures.app in
    let words : List Text = map {A = Bor Text} {B = Text} (λ s. s.now) c.args.words.now in
    ap (λ a. fault_of a words) (sym app) ∙ c.in-Ok-try_get_matches_from.ensures.kinds (ap is_simple_and_free app ∙ simple_and_free)

pub returns-in-Ok-try_get_matches_from-clause-rows : goal.returns-in-Ok-try_get_matches_from-clause-rows
returns-in-Ok-try_get_matches_from-clause-rows c =
    let app = c.in-Ok.ensures.app in
    let words : List Text = map {A = Bor Text} {B = Text} (λ s. s.now) c.args.words.now in
    (c.in-Ok-try_get_matches_from.ensures.matches (ap is_simple app ∙ simple)).1 ∙ ap (λ a. subcommand_of a words) app

pub returns-in-Err-clause-usage : goal.returns-in-Err-clause-usage
returns-in-Err-clause-usage c = λ e none.
    let app = c.in-Ok.ensures.app in
    let words : List Text = map {A = Bor Text} {B = Text} (λ s. s.now) c.args.words.now in
    let usage = not_memory (kind_of c.in-Err.error) (search (rules, e)) in
    ⊎_elim usage (λ h. none_in _ _ h (ap (λ a. fault_of a words) app ∙ none))
    (c.in-Err.ensures.kinds (ap is_simple_and_free app ∙ simple_and_free))
