use Rattle.std.proofs.Common.{◌≡◌, map, take}
use Rattle.rc_topology.specs.declared.port.PortAddr.{PortAddr}
use Rattle.rc_router_sets.proofs.destinations.prefixes_of.Given as goal

-- so far they are those of the first addresses
abbrev pub invariant-loop-address : goal.invariant-loop-address
invariant-loop-address l = l.prefixes.items ≡ map (λ (a : PortAddr). a.prefix) (take l.address-index l.addresses)
