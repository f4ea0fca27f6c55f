-- The next table and best paths of one router, from what all routers know.
use Rattle.std.specs.Prelude.{ℕ, not, List, [], ◌++◌, filter, map}
use Rattle.std.specs.List.{filter_map}
use Rattle.std.specs.Option.{option_map_or}
use Rattle.rc_bgp.specs.Candidates.{best_paths}
use Rattle.rc_bgp.specs.RouterStates.{table_of}
use Rattle.rc_bgp.specs.Learning.{learned_route}
use Rattle.rc_bgp.specs.Sessions.{configured_sessions}
use Rattle.rc_config.specs.declared.network.Network.{Network}
use Rattle.rc_config.specs.declared.router_text.RouterText.{RouterText}
use Rattle.rc_config.specs.Members.{router_at, router_ids}
use Rattle.rc_external.specs.Externals.{externals}
use Rattle.rc_external.specs.Routes.{external_routes}
use Rattle.rc_external.specs.declared.as_external.ExternalRow.{ExternalRow}
use Rattle.rc_fib.specs.Forwarding.{resolved}
use Rattle.rc_ospf.specs.Internal.{advertises, routes_of}
use Rattle.rc_ospf.specs.declared.model.Internal.{Internal}
use Rattle.rc_rib.specs.Best.{best_routes}
use Rattle.rc_rib.specs.Connected.{connected}
use Rattle.rc_rib.specs.Static.{active_lines, static_routes}
use Rattle.rc_route.specs.declared.best.Best.{Best}
use Rattle.rc_route.specs.declared.route.Route.{Route}
use Rattle.rc_route.specs.declared.state.RouterState.{RouterState}

-- those of some routes whose prefix a router doesn't advertise itself
abbrev pub to_others : Internal → ℕ → List Route → List Route
to_others internal r routes = filter (λ (x : Route). not (advertises internal r x.prefix)) routes

-- the OSPF routes of a router: inside and between areas, and from outside of the AS to what it doesn't advertise itself. Where both
-- are there for a prefix, the order of sources decides
abbrev pub ospf_routes : Internal → List ExternalRow → ℕ → List Route
ospf_routes internal rows r = routes_of internal r ++ to_others internal r (external_routes internal rows r)

-- the candidates of a router: the connected routes of its file, its static routes that the previous table makes active, and the
-- routes that it learned by BGP and by OSPF
abbrev pub candidates : ℕ → RouterText → List Route → List Route → List Route → List Route
candidates r file learned ospf old = connected r file.interfaces ++ (static_routes (active_lines r file.interfaces (resolved old) file.static_routes) ++ (learned ++ ospf))

-- the next table of a router, from its file, what it learned, and its previous table
abbrev pub table_after : ℕ → RouterText → List Route → List Route → List Route → List Route
table_after r file learned ospf old = best_routes (candidates r file learned ospf old)

-- the routes that best paths give
abbrev pub learned_routes : List Best → List Route
learned_routes paths = filter_map learned_route paths

-- what a router of this file knows after a round
abbrev pub router_after : Network → Internal → List RouterState → ℕ → RouterText → RouterState
router_after net internal old r file =
    let best = best_paths net (configured_sessions net internal.links) old r in
    record { table = table_after r file (learned_routes best) (ospf_routes internal (externals net old) r) (table_of old r); paths = best }

-- what a router knows after a round in which all read the old state: its best BGP paths, and for each prefix the route of the least
-- distance among connected, static, OSPF and BGP ones
abbrev pub next_router : Network → Internal → List RouterState → ℕ → RouterState
next_router net internal old r = option_map_or (router_after net internal old r) (router_at net r) (record { table = []; paths = [] })

-- the state after a round in which all routers read the old one
abbrev pub next_state : Network → Internal → List RouterState → List RouterState
next_state net internal old = map (next_router net internal old) (router_ids net)
