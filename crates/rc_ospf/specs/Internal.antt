-- What OSPF gives without a state: the routes of each router inside and between areas, and its paths to AS boundary routers.
use Rattle.std.specs.Prelude.{◌≡◌, ℕ, Bool, List, [], All, map, filter, length, slice_get, unwrap_or, Option, Some, None}
use Rattle.std.specs.List.{flat_map, list_any}
use Rattle.rc_base.specs.Prefix.{Cidr, contains, same_prefix}
use Rattle.rc_config.specs.Members.{router_ids}
use Rattle.rc_config.specs.declared.network.Network.{Network}
use Rattle.rc_topology.specs.Topology.{Topology}
use Rattle.rc_link_state.specs.Adjacency.{adjacencies}
use Rattle.rc_ospf.specs.Adverts.{adverts_of}
use Rattle.rc_ospf.specs.Areas.{OspfRouter, AreOspfRouters}
use Rattle.rc_ospf.specs.Boundaries.{boundary_paths}
use Rattle.rc_ospf.specs.BoundaryPaths.{BoundaryPath, IsNear}
use Rattle.rc_ospf_interfaces.specs.Interfaces.{ospf_interfaces}
use Rattle.rc_ospf.specs.Routes.{IsShortRoute, internal_routes, own_prefixes}
use Rattle.rc_link_state.specs.declared.step.Step.{Step}
use Rattle.rc_ospf.specs.declared.model.Internal.{Internal}
use Rattle.rc_ospf.specs.declared.offer.Advert.{Advert}
use Rattle.rc_route.specs.declared.route.Route.{Route}

-- the steps between the adjacent routers of a network
abbrev pub steps_of : Network → Topology → List Step
steps_of net links = adjacencies links (ospf_interfaces net)

-- all that its interfaces advertise
abbrev pub adverts_in : Network → List Advert
adverts_in net = flat_map (adverts_of net) (ospf_interfaces net)

-- what OSPF gives without a state: by the least walks of all routers, each router's routes inside and between areas, its paths to AS
-- boundary routers, and the prefixes that it advertises itself
pub record IsInternal (net : Network) (i : Internal) : Type 0 where
  pub routers : List OspfRouter
  pub as_many : length routers ≡ length net.routers
  pub are_routers : AreOspfRouters net (steps_of net i.links) 0 routers
  pub routes : i.routes ≡ map (internal_routes routers (adverts_in net)) routers
  pub boundaries : i.boundaries ≡ map (boundary_paths net routers) routers
  pub own : i.own ≡ map (own_prefixes net) (router_ids net)

-- those of some routes whose prefix holds an address
abbrev pub holding : ℕ → List Route → List Route
holding a routes = filter (λ (x : Route). contains x.prefix a) routes

-- the same with those routes alone whose prefix holds an address
abbrev pub internal_at : ℕ → Internal → Internal
internal_at a i = record i { routes = map (holding a) i.routes }

-- what OSPF gives without a state, of whose routes those alone are there whose prefix holds an address
abbrev pub IsInternalAt : Network → ℕ → Internal → Type 0
IsInternalAt net a i = (whole : Internal) × IsInternal net whole × (i ≡ internal_at a whole)

-- all routes of each router, or those at the address that is asked for
abbrev pub tables_asked : Option ℕ → List (List Route) → List (List Route)
tables_asked None tables = tables
tables_asked (Some a) tables = map (holding a) tables

-- the same for both
abbrev pub IsInternalAsked : Network → Option ℕ → Internal → Type 0
IsInternalAsked net asked i = (whole : Internal) × IsInternal net whole × (i ≡ record whole { routes = tables_asked asked whole.routes })

-- no cost reaches 2^27, so that none wraps, nor does one with a metric from outside of the AS added
pub record HasSmallSums (i : Internal) : Type 0 where
  pub routes : All (All IsShortRoute) i.routes
  pub boundaries : All (All IsNear) i.boundaries

-- a network with its links has one answer
abbrev pub HasOneInternal : Type 0
HasOneInternal = (net : Network) (these those : Internal) → these.links ≡ those.links → IsInternal net these → IsInternal net those → these ≡ those

-- a network with any links has an answer
abbrev pub HasInternal : Type 0
HasInternal = (net : Network) (links : Topology) → (i : Internal) × (i.links ≡ links) × IsInternal net i

-- a router's routes inside and between areas, of which there are none past the end
abbrev pub routes_of : Internal → ℕ → List Route
routes_of i r = unwrap_or (slice_get i.routes r) []

-- its paths to the other routers that are AS boundary routers
abbrev pub boundaries_of : Internal → ℕ → List BoundaryPath
boundaries_of i r = unwrap_or (slice_get i.boundaries r) []

-- the prefixes that it advertises itself
abbrev pub own_of : Internal → ℕ → List Cidr
own_of i r = unwrap_or (slice_get i.own r) []

-- whether a router advertises a prefix itself, as one of its own interfaces has it
abbrev pub advertises : Internal → ℕ → Cidr → Bool
advertises i r p = list_any (same_prefix p) (own_of i r)
