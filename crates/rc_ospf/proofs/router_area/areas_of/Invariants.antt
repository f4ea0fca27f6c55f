use Rattle.std.proofs.Common.{◌≡◌, ◌++◌, map}
use Rattle.std.specs.Ordering.{nat_cmp}
use Rattle.rc_base.specs.Lists.{in_order}
use Rattle.rc_ospf.specs.RouterAreas.{interface_area, router_area}
use Rattle.rc_ospf.proofs.router_area.areas_of.Given as goal

abbrev pub invariant-loop-area : goal.invariant-loop-area
invariant-loop-area l = l.areas ++ map (router_area l.process) l.area-iterator ≡ map (router_area l.process) (in_order nat_cmp (map interface_area l.interfaces))
