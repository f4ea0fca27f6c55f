use Rattle.std.proofs.Common.{◌≡◌, ap, ◌++◌, ◌∙◌, ◌+◌, drop, rules}
use Rattle.std.specs.Arc.{arc_value}
use Rattle.std.proofs.lemmas.List.{drop_all}
use Rattle.rc_route.specs.Parts.{joined_parts}
use Rattle.rc_fib.proofs.GrowingLaws.{all_grown, grown_more, grown_not_yet, part_of_left}
use Rattle.rc_fib.proofs.layers.push_parts.Goals as goal

pub loop-part-init : goal.loop-part-init
loop-part-init c = grown_not_yet c.args.fib.now c.args.made.now (joined_parts c.args.parts.now)

pub loop-part-preserved : goal.loop-part-preserved
loop-part-preserved c =
    let behind = joined_parts (drop (c.loop-part.part-index + 1) c.args.parts.now) in
    let routes : c.as_slice.result.now ≡ arc_value c.part-item.result = search rules in
    grown_more _ _ c.loop-part.made _ _ (joined_parts (drop c.loop-part.part-index c.args.parts.now)) c.as_slice.result.now behind
    (ap (λ rs. rs ++ behind) routes ∙ part_of_left c.args.parts.now c.loop-part.part-index c.part-item.result c.loop-part-test.true c.part-item.is)
    c.loop-part.invariant c.in_ok-push_routes.ensures

pub returns : goal.returns
returns c = all_grown _ _ _ _ _ (ap joined_parts (drop_all c.loop-part.part-index c.args.parts.now c.loop-part-test.false)) c.loop-part.invariant
