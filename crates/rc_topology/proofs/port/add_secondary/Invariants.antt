use Rattle.std.proofs.Common.{◌≡◌, ◌++◌, false, map, drop}
use Rattle.rc_topology.specs.Ports.{port_addr}
use Rattle.rc_topology.proofs.port.add_secondary.Given as goal

abbrev pub invariant-loop-address : goal.invariant-loop-address
invariant-loop-address l = l.all ++ map (port_addr false) (drop l.address-index l.addresses) ≡ l.fn.all ++ map (port_addr false) l.addresses
