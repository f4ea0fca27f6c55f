use Rattle.std.proofs.Common.{◌≡◌, take}
use Rattle.std.specs.List.{flat_map}
use Rattle.rc_router_sets.specs.Made.{hosts_by_port}
use Rattle.rc_router_sets.proofs.destinations.router_hosts.Given as goal

-- so far they are those of the first interfaces
abbrev pub invariant-loop-port : goal.invariant-loop-port
invariant-loop-port l = l.hosts.items ≡ flat_map hosts_by_port (take l.port-index l.ports)
