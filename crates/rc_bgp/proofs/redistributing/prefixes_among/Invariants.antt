use Rattle.std.proofs.Common.{◌≡◌, ◌++◌, drop}
use Rattle.std.specs.List.{flat_map}
use Rattle.rc_bgp.specs.Redistributing.{prefixes_among, prefixes_on}
use Rattle.rc_bgp.proofs.redistributing.prefixes_among.Given as goal

abbrev pub invariant-loop-interface : goal.invariant-loop-interface
invariant-loop-interface l = l.all ++ flat_map (prefixes_on l.net l.router) (drop l.interface-index l.interfaces) ≡ prefixes_among l.net l.router l.interfaces
