use Rattle.std.proofs.Common.{◌≡◌, ◌++◌, drop, map}
use Rattle.rc_link_state.specs.Costs.{told}
use Rattle.rc_link_state.proofs.costs.Costs.of.Given as goal

abbrev pub invariant-loop-cost : goal.invariant-loop-cost
invariant-loop-cost l = map told l.codes ++ drop l.cost-index l.costs ≡ l.costs
