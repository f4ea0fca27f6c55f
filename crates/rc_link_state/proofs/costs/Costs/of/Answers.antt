use Rattle.std.proofs.Common.{◌∙◌, ap, ◌∷◌, [], ◌++◌}
use Rattle.rc_link_state.proofs.CostLaws.{put_away}
use Rattle.rc_link_state.proofs.costs.Costs.of.Goals as goal

pub loop-cost-preserved : goal.loop-cost-preserved
loop-cost-preserved c = put_away c.args.costs.now c.loop-cost.codes c.push.new.self c.loop-cost.cost-index _ c.requires c.loop-cost-test.true (c.in_ok-push.ensures.ok ∙ ap (λ x. c.loop-cost.codes ++ x ∷ []) c.unwrap_or.ensures) c.loop-cost.invariant
