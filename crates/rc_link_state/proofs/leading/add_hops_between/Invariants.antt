use Rattle.std.proofs.Common.{◌≡◌, ◌++◌, drop, map}
use Rattle.rc_link_state.specs.HopsBy.{hop_between}
use Rattle.rc_link_state.proofs.leading.add_hops_between.Given as goal

abbrev pub invariant-loop-target : goal.invariant-loop-target
invariant-loop-target l = l.hops ++ map (hop_between l.source) (drop l.target-index l.targets) ≡ l.initial.hops ++ map (hop_between l.source) l.targets
