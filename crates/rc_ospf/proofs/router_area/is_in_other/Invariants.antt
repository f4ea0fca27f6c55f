use Rattle.std.proofs.Common.{◌≡◌, drop}
use Rattle.std.specs.List.{list_any}
use Rattle.rc_ospf.specs.RouterAreas.{is_outside}
use Rattle.rc_ospf.proofs.router_area.is_in_other.Given as goal

abbrev pub invariant-loop-area : goal.invariant-loop-area
invariant-loop-area l = list_any is_outside (drop l.area-index l.areas) ≡ list_any is_outside l.areas
