use Rattle.std.proofs.Common.{◌≡◌, drop, map}
use Rattle.std.specs.List.{fold}
use Rattle.std.specs.BTreeSet.{keys, insert_key}
use Rattle.std.specs.Ordering.{nat_cmp}
use Rattle.rc_base.specs.Lists.{in_order}
use Rattle.rc_ospf.specs.RouterAreas.{interface_area}
use Rattle.rc_ospf.proofs.router_area.area_set.Given as goal

abbrev pub invariant-loop-interface : goal.invariant-loop-interface
invariant-loop-interface l = fold (insert_key nat_cmp) (keys l.areas) (map interface_area (drop l.interface-index l.interfaces)) ≡ in_order nat_cmp (map interface_area l.interfaces)
