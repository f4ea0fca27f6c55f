-- What the routes of all routers are made of, without these routes.
use Rattle.std.specs.Prelude.{◌≡◌, ℕ, List, [], None, length, map}
use Rattle.rc_config.specs.declared.network.Network.{Network}
use Rattle.rc_link_state.specs.declared.step.Step.{Step}
use Rattle.rc_ospf.specs.Areas.{OspfRouter, AreOspfRouters}
use Rattle.rc_ospf.specs.Asked.{AnswerOver}
use Rattle.rc_ospf.specs.Boundaries.{boundary_paths}
use Rattle.rc_ospf.specs.BoundaryPaths.{BoundaryPath}
use Rattle.rc_ospf.specs.Internal.{IsInternal, routes_of, steps_of}
use Rattle.rc_ospf.specs.Members.{areas_in}
use Rattle.rc_ospf.specs.declared.grounds.Grounds.{Grounds}
use Rattle.rc_ospf.specs.declared.model.Internal.{Internal}
use Rattle.rc_ospf_interfaces.specs.Interfaces.{ospf_interfaces}
use Rattle.rc_route.specs.declared.route.Route.{Route}
use Rattle.rc_shares.specs.Stretches.{IsStretch}

-- the same without routes and without the prefixes that routers advertise
abbrev pub without_routes : Internal → Internal
without_routes i = record { links = i.links; routes = []; boundaries = i.boundaries; own = [] }

-- the paths of all routers to AS boundary routers, over the least walks
pub record AreBoundaries (net : Network) (steps : List Step) (paths : List (List BoundaryPath)) : Type 0 where
  pub routers : List OspfRouter
  pub as_many : length routers ≡ length net.routers
  pub are_routers : AreOspfRouters net steps 0 routers
  pub value : paths ≡ map (boundary_paths net routers) routers

-- what OSPF gives but for routes, the OSPF interfaces and the areas of the network, and walks by which its routers answer
pub record AreGrounds (net : Network) (g : Grounds) : Type 0 where
  pub whole : Internal
  pub is_internal : IsInternal net whole
  pub bare : g.internal ≡ without_routes whole
  pub interfaces : g.interfaces ≡ ospf_interfaces net
  pub areas : g.areas ≡ areas_in net
  pub walks : AnswerOver net (steps_of net g.internal.links) None g.walks

-- something is made of the routes of each router, in order
abbrev pub AreMadeOfRoutes : {M : Type 0} → (ℕ → List Route → M → Type 0) → Network → Internal → List M → Type 0
AreMadeOfRoutes makes net i all = IsStretch (λ r. makes r (routes_of i r)) 0 (length net.routers) all

-- so it is with the routes that OSPF gives over these links
abbrev pub AreMadeOver : {M : Type 0} → (ℕ → List Route → M → Type 0) → Network → Internal → List M → Type 0
AreMadeOver makes net bare all = (i : Internal) → IsInternal net i → i.links ≡ bare.links → AreMadeOfRoutes makes net i all
