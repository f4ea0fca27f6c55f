use Rattle.std.proofs.Common.{◌<◌, arith, sym, ◌∙◌}
use Rattle.std.proofs.lemmas.List.{take_all}
use Rattle.rc_openings.proofs.DecisiveLemmas.{none_more, only_one}
use Rattle.rc_openings.proofs.decide.first_fitting.Goals as goal

pub loop-opening-init : goal.loop-opening-init
loop-opening-init c = λ r h. let lt : h.0 < 0 = h.1 in absurd (omega arith)

pub loop-opening-preserved : goal.loop-opening-preserved
loop-opening-preserved c =
    none_more c.args.openings.now c.loop-opening.opening-index _ _ c.loop-opening-test.true (sym c.begins_opening.ensures ∙ c.if-begins_opening.false) c.loop-opening.invariant

pub returns-then-begins_opening : goal.returns-then-begins_opening
returns-then-begins_opening c =
    λ ones. only_one c.args.openings.now c.loop-opening.opening-index _ _ c.loop-opening-test.true (sym c.begins_opening.ensures ∙ c.if-begins_opening.true) ones

pub returns : goal.returns
returns c = λ ones. rw (take_all c.loop-opening.opening-index c.args.openings.now c.loop-opening-test.false) at c.loop-opening.invariant
