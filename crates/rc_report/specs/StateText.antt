-- The tables of a state, as text.
use Rattle.std.specs.Prelude.{ℕ, ◌+◌, List, [], ◌++◌, codes, decimal, flat_map, length, slice_get}
use Rattle.std.specs.Arc.{arc_value}
use Rattle.std.specs.List.{fold}
use Rattle.std.specs.Option.{option_map_or}
use Rattle.rc_config.specs.Members.{router_ids}
use Rattle.rc_config.specs.declared.network.Network.{Network}
use Rattle.std.specs.declared.alloc.Global.{Global}
use Rattle.std.specs.declared.sync.Arc.{Arc}
use Rattle.rc_report.specs.RouteText.{route_line, routes_text}
use Rattle.rc_route.specs.declared.route.Route.{Route}
use Rattle.rc_route.specs.declared.state.RouterState.{RouterState}

-- the routes of a router in a state
abbrev pub routes_in : Network → List RouterState → ℕ → List ℕ
routes_in net state r = option_map_or (λ (s : RouterState). routes_text net r s.table) (slice_get state r) []

-- each router and its routes, in byte order of host names
unfoldable pub all_routes : Network → List RouterState → List ℕ
all_routes net state = flat_map (routes_in net state) (router_ids net)

-- the lines of the routes of a part of a table
unfoldable pub part_lines : Network → Arc (List Route) Global → List ℕ
part_lines net part = flat_map (route_line net) (arc_value part)

-- how many routes the tables of all routers have
abbrev pub route_count : List RouterState → ℕ
route_count state = fold (λ n (s : RouterState). n + length s.table) 0 state

unfoldable pub routes_line : ℕ → List ℕ
routes_line n = codes "routes " ++ decimal n ++ codes "\n"
