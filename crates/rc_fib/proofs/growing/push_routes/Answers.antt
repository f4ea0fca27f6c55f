use Rattle.std.proofs.Common.{◌++◌, ◌∙◌, arith}
use Rattle.std.proofs.lemmas.List.{nil_from_length, take-append-drop}
use Rattle.rc_fib.proofs.GrowingLaws.{all_grown, grown_more, grown_not_yet}
use Rattle.rc_fib.proofs.growing.push_routes.Goals as goal

pub loop-left-init : goal.loop-left-init
loop-left-init c = grown_not_yet c.args.fib.now c.args.made.now c.args.routes.now

pub loop-left-preserved : goal.loop-left-preserved
loop-left-preserved c =
    grown_more _ _ c.loop-left.made _ _ c.loop-left.left.now c.split_at.result.0.now c.split_at.result.1.now
    ((λ i. c.split_at.ensures.front i ++ c.split_at.ensures.back i) ∙ take-append-drop _ c.loop-left.left.now) c.loop-left.invariant c.in_ok-push_run.ensures

pub returns : goal.returns
returns c = all_grown _ _ _ _ _ (nil_from_length c.loop-left.left.now (omega arith)) c.loop-left.invariant
