use Rattle.std.proofs.Common.{◌≡◌, ◌++◌, drop}
use Rattle.rc_topology.proofs.port.append.Given as goal

abbrev pub invariant-loop-address : goal.invariant-loop-address
invariant-loop-address l = l.all ++ drop l.address-index l.addresses ≡ l.fn.all ++ l.addresses
