use Rattle.std.proofs.Common.{◌≡◌, ◌++◌, drop}
use Rattle.std.specs.List.{filter_map}
use Rattle.rc_link_state.specs.Columns.{cost_at}
use Rattle.rc_link_state.specs.HopsBy.{hop_on}
use Rattle.rc_link_state.proofs.leading.add_hops_on.Given as goal

abbrev pub invariant-loop-step : goal.invariant-loop-step
invariant-loop-step l = l.hops ++ filter_map (hop_on (cost_at l.costs) l.cost) (drop l.step-index l.steps) ≡ l.initial.hops ++ filter_map (hop_on (cost_at l.costs) l.cost) l.steps
