use Rattle.std.proofs.Common.{◌≡◌, ◌++◌, drop}
use Rattle.std.specs.List.{flat_map}
use Rattle.rc_ospf.specs.Adverts.{adverts_of}
use Rattle.rc_ospf.proofs.advertising.adverts.Given as goal

abbrev pub invariant-loop-interface : goal.invariant-loop-interface
invariant-loop-interface l = l.all ++ flat_map (adverts_of l.net) (drop l.interface-index l.interfaces) ≡ flat_map (adverts_of l.net) l.interfaces
