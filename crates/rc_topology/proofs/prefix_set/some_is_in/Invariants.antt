use Rattle.std.proofs.Common.{◌≡◌, drop}
use Rattle.rc_topology.specs.Ports.{some_is_in}
use Rattle.rc_topology.proofs.prefix_set.some_is_in.Given as goal

abbrev pub invariant-loop-prefix : goal.invariant-loop-prefix
invariant-loop-prefix l = some_is_in (drop l.prefix-index l.prefixes) l.ordered ≡ some_is_in l.prefixes l.ordered
