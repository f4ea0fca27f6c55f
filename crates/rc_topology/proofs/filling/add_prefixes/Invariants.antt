use Rattle.std.proofs.Common.{◌≡◌, drop}
use Rattle.std.specs.List.{fold}
use Rattle.rc_topology.specs.Filling.{with_interface}
use Rattle.rc_topology.proofs.filling.add_prefixes.Given as goal

abbrev pub invariant-loop-prefix : goal.invariant-loop-prefix
invariant-loop-prefix l = fold (with_interface l.interface) l.index (drop l.prefix-index l.prefixes) ≡ fold (with_interface l.interface) l.fn.index l.prefixes
