use Rattle.std.proofs.Common.{◌≡◌, ◌++◌, drop, map}
use Rattle.rc_bgp.specs.Speakers.{own_addr}
use Rattle.rc_bgp.proofs.own_addresses.add_addresses.Given as goal

abbrev pub invariant-loop-address : goal.invariant-loop-address
invariant-loop-address l = l.own ++ map (own_addr l.id l.name) (drop l.address-index l.addresses) ≡ l.initial.own ++ map (own_addr l.id l.name) l.addresses
