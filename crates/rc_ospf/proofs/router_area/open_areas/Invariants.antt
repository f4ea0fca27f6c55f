use Rattle.std.proofs.Common.{◌≡◌, ◌++◌, drop}
use Rattle.rc_ospf.specs.RouterAreas.{open_areas}
use Rattle.rc_ospf.proofs.router_area.open_areas.Given as goal

abbrev pub invariant-loop-area : goal.invariant-loop-area
invariant-loop-area l = l.left ++ open_areas (drop l.area-index l.areas) ≡ open_areas l.areas
