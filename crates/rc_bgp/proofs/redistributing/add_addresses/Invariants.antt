use Rattle.std.proofs.Common.{◌≡◌, ◌++◌, drop, map}
use Rattle.rc_config.specs.Down.{prefix_of}
use Rattle.rc_bgp.proofs.redistributing.add_addresses.Given as goal

abbrev pub invariant-loop-address : goal.invariant-loop-address
invariant-loop-address l = l.all ++ map prefix_of (drop l.address-index l.addresses) ≡ l.initial.all ++ map prefix_of l.addresses
