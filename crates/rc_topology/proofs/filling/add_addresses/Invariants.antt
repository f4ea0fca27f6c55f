use Rattle.std.proofs.Common.{◌≡◌, map, drop}
use Rattle.std.specs.List.{fold}
use Rattle.rc_topology.specs.Filling.{host, with_interface}
use Rattle.rc_topology.specs.declared.port.PortAddr.{PortAddr}
use Rattle.rc_topology.proofs.filling.add_addresses.Given as goal

abbrev pub invariant-loop-address : goal.invariant-loop-address
invariant-loop-address l = fold (with_interface l.interface) l.index (map (λ (a : PortAddr). host a.addr) (drop l.address-index l.addresses)) ≡ fold (with_interface l.interface) l.fn.index (map (λ (a : PortAddr). host a.addr) l.addresses)
