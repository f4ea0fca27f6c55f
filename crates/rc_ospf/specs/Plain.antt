-- A plain program for the least walks, by which the worked cases compute: it lists all walks of at most n steps. A least walk
-- comes through no router twice, as each step costs at least 1, so the number of routers is enough for n.
use Rattle.std.specs.Prelude.{ℕ, zero, suc, ◌==◌, nat_lt, ◌&&◌, List, [], ◌∷◌, Option, Some, None, filter, map, slice_get}
use Rattle.std.specs.List.{filter_map, flat_map}
use Rattle.std.specs.Option.{option_map_or}
use Rattle.rc_base.specs.Lists.{in_order, keep}
use Rattle.rc_config.specs.Members.{router_ids}
use Rattle.rc_config.specs.declared.network.Network.{Network}
use Rattle.rc_route.specs.Hops.{hop_cmp}
use Rattle.rc_route.specs.declared.route.Route.{Route}
use Rattle.rc_topology.specs.Ports.{links_of}
use Rattle.rc_ospf.specs.Areas.{OspfRouter}
use Rattle.rc_ospf.specs.BoundaryPaths.{BoundaryPath}
use Rattle.rc_ospf.specs.Boundaries.{boundary_paths}
use Rattle.rc_ospf.specs.Internal.{steps_of, adverts_in}
use Rattle.rc_ospf.specs.RouterAreas.{router_areas}
use Rattle.rc_ospf.specs.Routes.{internal_routes}
use Rattle.rc_link_state.specs.Walks.{LeastWalks, Reach, walk_cost, first_hop}
use Rattle.rc_link_state.specs.declared.step.Step.{Step}

-- all walks of at most n steps from router r inside an area
abbrev pub walks : List Step → ℕ → ℕ → ℕ → List (List Step)
walks steps area zero r = [] ∷ []
walks steps area (suc n) r = [] ∷ flat_map (λ (x : Step). map (λ walk. x ∷ walk) (walks steps area n x.to)) (filter (λ (x : Step). (x.area == area) && (x.out.router == r)) steps)

abbrev pub end_of : ℕ → List Step → ℕ
end_of r [] = r
end_of r (x ∷ walk) = end_of x.to walk

-- the least of some walks: their cost, and the first hops of all of them
abbrev pub least_of : List (List Step) → Option LeastWalks
least_of [] = None
least_of (w ∷ ws) = Some (record { cost = walk_cost w; hops = in_order hop_cmp (filter_map first_hop (w ∷ ws)) })

abbrev pub reach_within : ℕ → List Step → ℕ → Reach
reach_within n steps r area s = least_of (keep (λ x y. nat_lt (walk_cost x) (walk_cost y)) (filter (λ walk. end_of r walk == s) (walks steps area n r)))

-- the routers of a network, by walks of at most n steps
abbrev pub routers_within : ℕ → Network → List OspfRouter
routers_within n net = map (λ r. record { router = r; areas = router_areas net r; reach = reach_within n (steps_of net (links_of net)) r }) (router_ids net)

abbrev pub routes_in : Network → List OspfRouter → ℕ → List Route
routes_in net routers r = option_map_or (internal_routes routers (adverts_in net)) (slice_get routers r) []

-- the routes of a router
abbrev pub routes_within : ℕ → Network → ℕ → List Route
routes_within n net r = routes_in net (routers_within n net) r

abbrev pub paths_in : Network → List OspfRouter → ℕ → List BoundaryPath
paths_in net routers r = option_map_or (boundary_paths net routers) (slice_get routers r) []

-- its paths to AS boundary routers
abbrev pub paths_within : ℕ → Network → ℕ → List BoundaryPath
paths_within n net r = paths_in net (routers_within n net) r
