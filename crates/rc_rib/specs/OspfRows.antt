-- Worked cases of routes by OSPF and BGP beside connected and static ones, each by computation.
use Rattle.std.specs.Prelude.{◌≡◌, ℕ, ◌+◌, ◌*◌, List, [], ◌∷◌, map, Some, None, codes, refl}
use Rattle.rc_base.specs.Prefix.{Cidr, prefix_at}
use Rattle.rc_config.specs.Interface.{fresh}
use Rattle.rc_config.specs.Update.{empty}
use Rattle.rc_config.specs.declared.router_text.RouterText.{RouterText}
use Rattle.rc_config.specs.declared.static_route.StaticRoute.{StaticRoute}
use Rattle.rc_config.specs.declared.static_route.Target.TheVariants as target
use Rattle.rc_fib.specs.Forwarding.{hops_within}
use Rattle.rc_rib.specs.Best.{best_routes}
use Rattle.rc_ospf.specs.Internal.{routes_of}
use Rattle.rc_rib.specs.Connected.{connected, connected_route_over}
use Rattle.rc_rib.specs.Next.{learned_routes, table_after, to_others}
use Rattle.rc_rib.specs.Static.{static_routes}
use Rattle.rc_route.specs.declared.route.Hop.{Hop}
use Rattle.rc_route.specs.declared.route.Hop.TheVariants.{Null, Via}
use Rattle.rc_route.specs.declared.route.Route.{Route}
use Rattle.rc_route.specs.declared.route.Source.{Source}
use Rattle.rc_route.specs.declared.route.Source.TheVariants.{Connected, Static, Ebgp, Ospf, OspfIa, OspfE1, OspfE2, Ibgp}
use Rattle.rc_route.specs.Best.{alone}
use Rattle.rc_route.specs.declared.path.BgpPath.{BgpPath}
use Rattle.rc_route.specs.declared.path.PathSource.{PathSource}
use Rattle.rc_route.specs.declared.path.PathSource.TheVariants as by_path
use Rattle.rc_ospf.specs.declared.model.Internal.{Internal}
use Rattle.rc_topology.specs.declared.links.Links.{Links}
use Rattle.rc_base.specs.declared.origin.Origin.TheVariants.{Igp}

-- 10.0.m.n, and 10.0.m.0/24
abbrev address : ℕ → ℕ → ℕ
address m n = 10 * 16777216 + m * 256 + n

abbrev subnet : ℕ → Cidr
subnet m = prefix_at (address m 0) 24

-- a router of one interface, 10.0.1.1/24, with these static routes to null: prefix and distance
abbrev to_null : Cidr × ℕ → StaticRoute
to_null l = record { prefix = l.0; target = target.Null; distance = l.1 }

abbrev file : List StaticRoute → RouterText
file lines = record empty { interfaces = (codes "Gi0/0", record fresh { primary = Some (record { addr = address 1 1; len = 24 }) }) ∷ []; static_routes = lines }

abbrev neighbour : Hop
neighbour = Via (address 1 2) (Some (record { router = 7; index = 0 }))

abbrev ospf : Cidr → Route
ospf p = record { prefix = p; source = Ospf; distance = 110; metric = 20; hops = neighbour ∷ [] }

abbrev static : Cidr → ℕ → Hop → Route
static p d hop = record { prefix = p; source = Static; distance = d; metric = 0; hops = hop ∷ [] }

abbrev own : Route
own = connected_route_over 7 (subnet 1) (0 ∷ [])

-- an OSPF route stands in its place, by address, then length
pub by_prefix : table_after 7 (file []) [] (ospf (subnet 0) ∷ ospf (subnet 9) ∷ []) [] ≡ ospf (subnet 0) ∷ own ∷ ospf (subnet 9) ∷ []
unfolding connected static_routes best_routes hops_within
by_prefix = refl

-- a connected route is preferred
pub connected_wins : table_after 7 (file []) [] (ospf (subnet 1) ∷ []) [] ≡ own ∷ []
unfolding connected static_routes best_routes hops_within
connected_wins = refl

-- a static route is preferred up to the distance of OSPF, as which it comes by source, and not beyond
pub by_distance : table_after 7 (file (to_null (subnet 7, 1) ∷ to_null (subnet 8, 110) ∷ to_null (subnet 9, 111) ∷ [])) [] (ospf (subnet 7) ∷ ospf (subnet 8) ∷ ospf (subnet 9) ∷ []) [] ≡
    own ∷ static (subnet 7) 1 Null ∷ static (subnet 8) 110 Null ∷ ospf (subnet 9) ∷ []
unfolding connected static_routes best_routes hops_within
by_distance = refl

-- a next hop is reached over an OSPF route of the previous table
abbrev over_ospf : StaticRoute
over_ospf = record { prefix = subnet 8; target = target.Via (address 9 3); distance = 1 }

pub through_ospf : table_after 7 (file (over_ospf ∷ [])) [] (ospf (subnet 9) ∷ []) (own ∷ ospf (subnet 9) ∷ []) ≡ own ∷ static (subnet 8) 1 (Via (address 9 3) None) ∷ ospf (subnet 9) ∷ []
unfolding connected static_routes best_routes hops_within
through_ospf = refl

-- ---- what OSPF gives a router: its routes inside and between areas, and those from outside of the AS

abbrev outside : Cidr → Route
outside p = record (ospf p) { source = OspfE2; metric = 20 }

abbrev between : Cidr → Route
between p = record (ospf p) { source = OspfIa; metric = 30 }

-- each router has its own, in the network's order
abbrev internal : Links → Internal
internal links = record { links = links; routes = (ospf (subnet 8) ∷ []) ∷ (ospf (subnet 9) ∷ []) ∷ []; boundaries = []; own = (subnet 1 ∷ []) ∷ (subnet 2 ∷ subnet 3 ∷ []) ∷ [] }

pub of_a_router : (links : Links) → routes_of (internal links) 1 ≡ ospf (subnet 9) ∷ []
of_a_router links = refl

pub of_no_router : (links : Links) → routes_of (internal links) 2 ≡ []
of_no_router links = refl

-- what a router advertises itself gets no route from outside, also where it has no connected one, as a loopback with a mask of its own
pub own_prefixes : (links : Links) → to_others (internal links) 1 (outside (subnet 1) ∷ outside (subnet 2) ∷ outside (subnet 3) ∷ outside (subnet 4) ∷ []) ≡ outside (subnet 1) ∷ outside (subnet 4) ∷ []
own_prefixes links = refl

-- of one prefix inside an area before between areas, and both before outside, wherever they stand
pub by_source : table_after 7 (file []) [] (ospf (subnet 8) ∷ between (subnet 9) ∷ outside (subnet 8) ∷ outside (subnet 9) ∷ outside (subnet 10) ∷ []) [] ≡
    own ∷ ospf (subnet 8) ∷ between (subnet 9) ∷ outside (subnet 10) ∷ []
unfolding connected static_routes best_routes hops_within
by_source = refl

-- ---- what is learned by BGP

abbrev learned : Source → ℕ → Cidr → Route
learned source distance p = record { prefix = p; source = source; distance = distance; metric = 0; hops = Via (address 1 9) None ∷ [] }

-- from another AS at distance 20, before OSPF; from the own one at 200, behind it
pub ebgp_before_ospf : table_after 7 (file []) (learned Ebgp 20 (subnet 8) ∷ learned Ibgp 200 (subnet 9) ∷ []) (ospf (subnet 8) ∷ ospf (subnet 9) ∷ []) [] ≡
    own ∷ learned Ebgp 20 (subnet 8) ∷ ospf (subnet 9) ∷ []
unfolding connected static_routes best_routes hops_within
ebgp_before_ospf = refl

-- a connected route before any, and a static one by its distance; at one distance the static one comes first by source
pub beside_static : table_after 7 (file (to_null (subnet 7, 1) ∷ to_null (subnet 8, 20) ∷ to_null (subnet 9, 200) ∷ to_null (subnet 10, 201) ∷ []))
    (learned Ebgp 20 (subnet 1) ∷ learned Ebgp 20 (subnet 7) ∷ learned Ebgp 20 (subnet 8) ∷ learned Ibgp 200 (subnet 9) ∷ learned Ibgp 200 (subnet 10) ∷ []) [] [] ≡
    own ∷ static (subnet 7) 1 Null ∷ static (subnet 8) 20 Null ∷ static (subnet 9) 200 Null ∷ learned Ibgp 200 (subnet 10) ∷ []
unfolding connected static_routes best_routes hops_within
beside_static = refl

-- a path gives the route over its next hop with its MED as the metric, and none where the router originates it
abbrev path : PathSource → Cidr → BgpPath
path source p = record {
  prefix = p;
  next_hop = address 1 9;
  med = 7;
  local_preference = 100;
  weight = 0;
  sender_id = 1;
  neighbor = address 1 9;
  igp_metric = 0;
  origin = Igp;
  source = source;
  sender = 3;
  communities = [];
  as_path = 65001 ∷ [];
}

pub routes_of_paths : learned_routes (map alone (path by_path.External (subnet 7) ∷ path by_path.Network (subnet 8) ∷ path by_path.Internal (subnet 9) ∷ [])) ≡
    record (learned Ebgp 20 (subnet 7)) { metric = 7 } ∷ record (learned Ibgp 200 (subnet 9)) { metric = 7 } ∷ []
routes_of_paths = refl

-- ---- at one administrative distance: connected, static, ebgp, the four of OSPF, ibgp
abbrev at_one : Source → Route
at_one source = record (learned source 90 (subnet 9)) { metric = 0 }

pub in_order_of_sources : map (λ s. best_routes (at_one Ibgp ∷ at_one s ∷ [])) (Static ∷ Ebgp ∷ Ospf ∷ OspfIa ∷ OspfE1 ∷ OspfE2 ∷ []) ≡
    map (λ s. at_one s ∷ []) (Static ∷ Ebgp ∷ Ospf ∷ OspfIa ∷ OspfE1 ∷ OspfE2 ∷ [])
unfolding best_routes
in_order_of_sources = refl

pub each_before_the_next : map (λ (s : Source × Source). best_routes (at_one s.1 ∷ at_one s.0 ∷ [])) ((Connected, Static) ∷ (Static, Ebgp) ∷ (Ebgp, Ospf) ∷ (Ospf, OspfIa) ∷ (OspfIa, OspfE1) ∷ (OspfE1, OspfE2) ∷ (OspfE2, Ibgp) ∷ []) ≡
    map (λ s. at_one s ∷ []) (Connected ∷ Static ∷ Ebgp ∷ Ospf ∷ OspfIa ∷ OspfE1 ∷ OspfE2 ∷ [])
unfolding best_routes
each_before_the_next = refl
