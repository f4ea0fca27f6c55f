use Rattle.std.proofs.Common.{◌≡◌, length}
use Rattle.std.specs.List.{filter_map}
use Rattle.rc_link_state.specs.Columns.{cost_at}
use Rattle.rc_link_state.specs.HopsBy.{hop_on}
use Rattle.rc_link_state.proofs.sole.first_leading.Given as goal

abbrev pub invariant-loop-left : goal.invariant-loop-left
invariant-loop-left l = filter_map (hop_on (cost_at l.costs) l.cost) l.left ≡ filter_map (hop_on (cost_at l.costs) l.cost) l.fn.steps

abbrev pub decreases-loop-left : goal.decreases-loop-left
decreases-loop-left l = length l.left
