-- The areas of a router (RFC 2328 s.3): those of its OSPF interfaces.
use Rattle.std.specs.Prelude.{ℕ, ◌==◌, Bool, false, not, ◌&&◌, List, [], map, filter, is_some}
use Rattle.std.specs.List.{list_any}
use Rattle.std.specs.Option.{option_map_or}
use Rattle.std.specs.Ordering.{nat_cmp}
use Rattle.rc_base.specs.Lists.{in_order}
use Rattle.rc_config.specs.Members.{router_at}
use Rattle.rc_config.specs.declared.network.Network.{Network}
use Rattle.rc_config.specs.declared.ospf.OspfProcess.{OspfProcess}
use Rattle.rc_config.specs.declared.ospf.StubArea.{StubArea}
use Rattle.rc_config.specs.declared.router_text.RouterText.{RouterText}
use Rattle.rc_ospf_interfaces.specs.Interfaces.{stub_of, interfaces_of}
use Rattle.rc_ospf_interfaces.specs.declared.interface.OspfInterface.{OspfInterface}
use Rattle.rc_ospf.specs.declared.router_area.RouterArea.{RouterArea}

-- an area as a process has it: whether it is a stub area there (RFC 2328 s.3.6), and whether no summary is sent into it
abbrev pub router_area : OspfProcess → ℕ → RouterArea
router_area p area = record { area = area; is_stub = is_some (stub_of p area); no_summary = option_map_or (λ (s : StubArea). s.no_summary) (stub_of p area) false }

abbrev pub interface_area : OspfInterface → ℕ
interface_area i = i.area

abbrev pub areas_of : OspfProcess → List OspfInterface → List RouterArea
areas_of p interfaces = map (router_area p) (in_order nat_cmp (map interface_area interfaces))

abbrev pub areas_in_file : ℕ → RouterText → List RouterArea
areas_in_file r file = option_map_or (λ (p : OspfProcess). areas_of p (interfaces_of r file)) file.ospf []

-- by rising area, each once
abbrev pub router_areas : Network → ℕ → List RouterArea
router_areas net r = option_map_or (areas_in_file r) (router_at net r) []

abbrev pub is_area : ℕ → RouterArea → Bool
is_area area a = a.area == area

abbrev pub is_in : ℕ → List RouterArea → Bool
is_in area areas = list_any (is_area area) areas

-- an area other than the backbone
abbrev pub is_outside : RouterArea → Bool
is_outside a = not (a.area == 0)

-- an area border router (RFC 2328 s.3.3) is in the backbone and in another area
abbrev pub is_border : List RouterArea → Bool
is_border areas = is_in 0 areas && list_any is_outside areas

abbrev pub is_open : RouterArea → Bool
is_open a = not a.is_stub

-- the areas that aren't stub areas there
abbrev pub open_areas : List RouterArea → List RouterArea
open_areas areas = filter is_open areas
