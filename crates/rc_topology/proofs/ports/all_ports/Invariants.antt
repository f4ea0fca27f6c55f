use Rattle.std.proofs.Common.{◌≡◌, map, take}
use Rattle.rc_topology.specs.Ports.{ports_of}
use Rattle.rc_topology.proofs.ports.all_ports.Given as goal

abbrev pub invariant-loop-index : goal.invariant-loop-index
invariant-loop-index l = l.links ≡ map (λ e. ports_of e.1) (take l.index l.net.routers)
