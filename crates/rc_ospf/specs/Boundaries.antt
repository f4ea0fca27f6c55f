-- Paths to AS boundary routers (RFC 2328 s.3.3 and 16.4).
use Rattle.std.specs.Prelude.{ℕ, ◌==◌, Bool, true, false, ◌||◌, if◌then◌else◌, List, [], ◌∷◌, map, filter, Option, None, is_some}
use Rattle.std.specs.List.{filter_map}
use Rattle.std.specs.Option.{option_map, option_map_or, option_or}
use Rattle.rc_base.specs.Lists.{in_order}
use Rattle.rc_config.specs.Members.{router_at, router_ids}
use Rattle.rc_config.specs.declared.network.Network.{Network}
use Rattle.rc_config.specs.declared.ospf.OspfProcess.{OspfProcess}
use Rattle.rc_config.specs.declared.ospf.Redistribution.{Redistribution}
use Rattle.rc_config.specs.declared.router_text.RouterText.{RouterText}
use Rattle.rc_route.specs.Hops.{hop_cmp}
use Rattle.rc_route.specs.Ways.{Way}
use Rattle.rc_ospf.specs.BoundaryPaths.{BoundaryPath}
use Rattle.rc_ospf.specs.Areas.{OspfRouter, without_stubs, offer, summaries_of, inter}
use Rattle.rc_ospf.specs.Offered.{Offered}
use Rattle.rc_ospf.specs.RouterAreas.{router_areas, open_areas}
use Rattle.rc_ospf.specs.Ways.{best_way}
use Rattle.rc_ospf.specs.declared.router_area.RouterArea.{RouterArea}
use Rattle.rc_ospf.specs.declared.summaries.Summaries.{Summaries}

abbrev pub has_any : List Redistribution → Bool
has_any [] = false
has_any (r ∷ rs) = true

-- a process that sends routes from outside of the AS
abbrev pub is_boundary_process : OspfProcess → Bool
is_boundary_process p = has_any p.redistributions || is_some p.default_information

abbrev pub is_boundary_file : RouterText → Bool
is_boundary_file file = option_map_or is_boundary_process file.ospf false

abbrev pub is_boundary : Network → ℕ → Bool
is_boundary net r = option_map_or is_boundary_file (router_at net r) false

-- in the network's order
abbrev pub boundary_routers : Network → List ℕ
boundary_routers net = filter (is_boundary net) (router_ids net)

-- it is offered at the cost 0 in each of its areas that isn't a stub area
abbrev pub boundary_offers : Network → ℕ → List Offered
boundary_offers net s = map (λ (a : RouterArea). offer s a.area 0) (open_areas (router_areas net s))

abbrev pub path_over : ℕ → Way ℕ → BoundaryPath
path_over s w = record { router = s; cost = w.cost; hops = in_order hop_cmp w.hops }

-- the path of a router to another one: inside an area where there is one, and else between areas
abbrev pub boundary_path_by : OspfRouter → ℕ → List Offered → Summaries → Option BoundaryPath
boundary_path_by m s inside summaries = if m.router == s then None else option_map (path_over s) (option_or (best_way m.reach inside) (inter m summaries))

-- stub areas left out at each router
abbrev pub boundary_path : Network → List OspfRouter → OspfRouter → ℕ → Option BoundaryPath
boundary_path net routers m s =
    boundary_path_by (without_stubs m) s (boundary_offers net s) (summaries_of (map without_stubs routers) false (boundary_offers net s))

-- the paths of a router to the others that are AS boundary routers
abbrev pub boundary_paths : Network → List OspfRouter → OspfRouter → List BoundaryPath
boundary_paths net routers m = filter_map (boundary_path net routers m) (boundary_routers net)
