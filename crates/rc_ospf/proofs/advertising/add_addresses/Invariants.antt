use Rattle.std.proofs.Common.{◌≡◌, ◌++◌, map, drop}
use Rattle.rc_ospf.specs.Adverts.{advert_of}
use Rattle.rc_ospf.proofs.advertising.add_addresses.Given as goal

abbrev pub invariant-loop-address : goal.invariant-loop-address
invariant-loop-address l = l.all ++ map (advert_of l.interface l.as_host) (drop l.address-index l.addresses) ≡ l.initial.all ++ map (advert_of l.interface l.as_host) l.addresses
