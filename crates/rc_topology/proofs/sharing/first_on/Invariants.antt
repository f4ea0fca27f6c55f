use Rattle.std.proofs.Common.{◌≡◌, None, drop}
use Rattle.std.specs.List.{fold}
use Rattle.rc_topology.specs.Left.{with_prefix}
use Rattle.rc_topology.proofs.sharing.first_on.Given as goal

abbrev pub invariant-loop-prefix : goal.invariant-loop-prefix
invariant-loop-prefix l = fold (with_prefix l.links l.router l.last) l.first (drop l.prefix-index l.prefixes) ≡ fold (with_prefix l.links l.router l.last) None l.prefixes
