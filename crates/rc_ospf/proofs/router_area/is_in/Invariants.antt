use Rattle.std.proofs.Common.{◌≡◌, drop}
use Rattle.rc_ospf.specs.RouterAreas.{is_in}
use Rattle.rc_ospf.proofs.router_area.is_in.Given as goal

abbrev pub invariant-loop-own : goal.invariant-loop-own
invariant-loop-own l = is_in l.area (drop l.own-index l.areas) ≡ is_in l.area l.areas
