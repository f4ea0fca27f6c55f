use Rattle.std.proofs.Common.{◌≡◌, ◌++◌, drop, filter}
use Rattle.rc_link_state.specs.Columns.{cost_at}
use Rattle.rc_link_state.specs.HopsBy.{arrives_at}
use Rattle.rc_link_state.proofs.leading.targets_of.Given as goal

abbrev pub invariant-loop-target : goal.invariant-loop-target
invariant-loop-target l = l.found ++ filter (arrives_at (cost_at l.costs) l.left) (drop l.target-index l.attached) ≡ filter (arrives_at (cost_at l.costs) l.left) l.attached
