-- What routers know at one address.
use Rattle.std.specs.Prelude.{◌≡◌, ◌≢◌, ℕ, ◌≤◌, List, [], All, None, IfSome, length}
use Rattle.rc_config.specs.Members.{router_at}
use Rattle.rc_config.specs.declared.network.Network.{Network}
use Rattle.rc_config.specs.declared.router_text.RouterText.{RouterText}
use Rattle.rc_ospf.specs.Internal.{holding}
use Rattle.rc_shares.specs.Making.{AreMade}
use Rattle.rc_ospf.specs.declared.model.Internal.{Internal}
use Rattle.rc_rib.specs.Next.{next_state}
use Rattle.rc_route.specs.Tables.{IsRouterState, IsStateOf}
use Rattle.rc_route.specs.declared.outcome.Outcome.TheVariants.{Fixed}
use Rattle.rc_route.specs.declared.state.RouterState.{RouterState}
use Rattle.rc_topology.specs.Ports.{links_of}
use Rattle.rc_topology.specs.Topology.{Topology}
use Rattle.rc_rounds.specs.Rounds.{empty_state, IsOutcome}

-- a router of this file runs no BGP and has no line `ip route`
abbrev pub AsksNoTable : RouterText → Type 0
AsksNoTable file = (file.bgp ≡ None) × (file.static_routes ≡ [])

-- so it is of each router
abbrev pub NoneAskTables : Network → Type 0
NoneAskTables net = (r : ℕ) → IfSome (router_at net r) AsksNoTable

-- two routers know the same routes to an address
abbrev pub KnowAlikeAt : ℕ → RouterState → RouterState → Type 0
KnowAlikeAt a s t = holding a s.table ≡ holding a t.table

-- router by router
abbrev pub AreAlikeAt : ℕ → List RouterState → List RouterState → Type 0
AreAlikeAt a these those = AreMade (KnowAlikeAt a) these those

-- the state after the first round, which differs from the empty one
pub record IsFirstState (net : Network) (internal : Internal) (state : List RouterState) : Type 0 where
  pub value : state ≡ next_state net internal (empty_state net)
  pub some_known : state ≢ empty_state net
  pub in_order : IsStateOf (length net.routers) state

-- with the links of the network, a state that has at an address the routes of its fixed point, which the second round finds
pub record IsKnownAt (net : Network) (a : ℕ) (links : Topology) (state : List RouterState) : Type 0 where
  pub whole : List RouterState
  pub own : links ≡ links_of net
  pub outcome : (limit : ℕ) → 2 ≤ limit → IsOutcome net limit (Fixed 2 whole)
  pub alike : AreAlikeAt a whole state
  pub in_order : All IsRouterState state
