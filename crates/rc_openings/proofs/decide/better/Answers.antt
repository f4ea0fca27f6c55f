use Rattle.std.proofs.Common.{◌≡◌, ◌<◌, ◌≤◌, true, length, sym, ◌∙◌}
use borrow.Author.Tests.{ltb-true, ltb-false}
use Rattle.rc_openings.specs.Words.{words_of}
use Rattle.rc_openings.specs.Opening.{begins_with}
use Rattle.rc_openings.specs.Opening.{row_of}
use Rattle.rc_openings.proofs.DecisiveLemmas.{decisive_first, decisive_longer, decisive_kept}
use Rattle.rc_openings.proofs.decide.better.Goals as goal

pub returns-in-None : goal.returns-in-None
returns-in-None c =
    λ rows was.
    let fits : begins_with (words_of c.args.text.now) (words_of c.args.opening.now.text.now) ≡ true = sym c.begins_opening.ensures ∙ c.if-not-begins_opening.false in
    decisive_first rows (words_of c.args.text.now) (row_of c.args.opening.now) fits (rw c.in-None.is at was)

pub returns-then-is_longer : goal.returns-then-is_longer
returns-then-is_longer c =
    λ rows was.
    let fits : begins_with (words_of c.args.text.now) (words_of c.args.opening.now.text.now) ≡ true = sym c.begins_opening.ensures ∙ c.if-not-begins_opening.false in
    let lt : length (words_of c.in-Some.other.now.text.now) < length (words_of c.args.opening.now.text.now) = rw (← c.words-in-Some.ensures, ← c.words.ensures) (ltb-true _ _ (sym c.is_longer.ensures ∙ c.if-is_longer.true)) in
    decisive_longer rows (words_of c.args.text.now) (row_of c.args.opening.now) (row_of c.in-Some.other.now) fits (rw c.in-Some.is at was) lt

pub returns-else-is_longer : goal.returns-else-is_longer
returns-else-is_longer c =
    λ rows was.
    let le : length (words_of c.args.opening.now.text.now) ≤ length (words_of c.in-Some.other.now.text.now) = rw (← c.words-in-Some.ensures, ← c.words.ensures) (ltb-false _ _ (sym c.is_longer.ensures ∙ c.if-is_longer.false)) in
    rw c.in-Some.is (decisive_kept rows (words_of c.args.text.now) (row_of c.args.opening.now) (row_of c.in-Some.other.now) (rw c.in-Some.is at was) le)
