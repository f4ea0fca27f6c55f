use Rattle.std.proofs.Common.{◌≡◌, map, take}
use Rattle.rc_topology.specs.Ports.{port_of}
use Rattle.rc_topology.proofs.ports.ports_of.Given as goal

abbrev pub invariant-loop-index : goal.invariant-loop-index
invariant-loop-index l = l.ports ≡ map (port_of l.file.interfaces) (take l.index l.file.interfaces)
