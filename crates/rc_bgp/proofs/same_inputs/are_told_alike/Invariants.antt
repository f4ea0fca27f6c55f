use Rattle.std.proofs.Common.{take}
use Rattle.std.specs.List.{AllByRecursion}
use Rattle.rc_bgp.specs.Changes.{IsToldAlike}
use Rattle.rc_bgp.proofs.same_inputs.are_told_alike.Given as goal

abbrev pub invariant-loop-best : goal.invariant-loop-best
invariant-loop-best l = AllByRecursion (IsToldAlike l.before l.now) (take l.best-index l.paths)
