use Rattle.std.proofs.Common.{◌≡◌, ◌++◌, drop, map}
use Rattle.rc_ospf.specs.Areas.{offer}
use Rattle.rc_ospf.specs.RouterAreas.{open_areas}
use Rattle.rc_ospf.specs.declared.router_area.RouterArea.{RouterArea}
use Rattle.rc_ospf.proofs.boundary.open_offers.Given as goal

abbrev pub invariant-loop-area : goal.invariant-loop-area
invariant-loop-area l = l.offers ++ map (λ (a : RouterArea). offer l.router a.area 0) (open_areas (drop l.area-index l.areas)) ≡ map (λ (a : RouterArea). offer l.router a.area 0) (open_areas l.areas)
