use Rattle.std.proofs.Common.{◌≡◌, ◌++◌, map, take}
use Rattle.rc_base.specs.Prefix.{prefix_at}
use Rattle.rc_topology.specs.declared.port.PortAddr.{PortAddr}
use Rattle.rc_router_sets.proofs.destinations.push_hosts.Given as goal

-- so far the first addresses stand at the end
abbrev pub invariant-loop-address : goal.invariant-loop-address
invariant-loop-address l = l.hosts.items ≡ l.fn.hosts.items ++ map (λ (a : PortAddr). prefix_at a.addr 32) (take l.address-index l.addresses)
