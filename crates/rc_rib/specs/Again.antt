-- A router that knows the same again.
use Rattle.std.specs.Prelude.{◌≡◌, ◌⊎◌, ℕ, ◌<◌, false, List, [], None, IfSome, length}
use Rattle.std.specs.List.{list_any}
use Rattle.rc_bgp.specs.Candidates.{best_paths}
use Rattle.rc_bgp.specs.RouterStates.{table_of}
use Rattle.rc_bgp.specs.Sessions.{configured_sessions, sessions_of}
use Rattle.rc_bgp_session.specs.declared.session.Session.{Session}
use Rattle.rc_config.specs.Members.{router_at}
use Rattle.rc_config.specs.declared.network.Network.{Network}
use Rattle.rc_config.specs.declared.router_text.RouterText.{RouterText}
use Rattle.rc_config.specs.declared.static_route.StaticRoute.{StaticRoute}
use Rattle.rc_ospf.specs.Internal.{boundaries_of}
use Rattle.rc_ospf.specs.declared.model.Internal.{Internal}
use Rattle.rc_rib.specs.Static.{asks_table}
use Rattle.rc_route.specs.declared.state.RouterState.{RouterState}

-- the router has no line `ip route`: its static routes read no table
abbrev pub HasNoLines : Network → ℕ → Type 0
HasNoLines net router = IfSome (router_at net router) (λ (file : RouterText). file.static_routes ≡ [])

-- it originates no path and hears none, and has no path to a router from which it would have routes from outside of the AS: what
-- other routers know changes nothing for it
pub record ReadsNoOthers (net : Network) (internal : Internal) (sessions : List (List Session)) (router : ℕ) : Type 0 where
  pub no_process : IfSome (router_at net router) (λ (file : RouterText). file.bgp ≡ None)
  pub no_sessions : sessions_of sessions router ≡ []
  pub no_boundaries : boundaries_of internal router ≡ []

-- no line `ip route` of the router asks a table: each names an interface or Null0
abbrev pub AsksNoTable : Network → ℕ → Type 0
AsksNoTable net router = IfSome (router_at net router) (λ (file : RouterText). list_any (λ (s : StaticRoute). asks_table s.target) file.static_routes ≡ false)

-- by a state the router has the best paths that it has by the state before, it has no path to a router from which it would have routes from
-- outside of the AS, and its table is that of the state before where a line of it asks it
pub record IsUnchanged (net : Network) (internal : Internal) (sessions : List (List Session)) (state before : List RouterState) (router : ℕ) : Type 0 where
  pub no_boundaries : boundaries_of internal router ≡ []
  pub paths : best_paths net sessions before router ≡ best_paths net sessions state router
  pub reads : AsksNoTable net router ⊎ (table_of state router ≡ table_of before router)

-- so it is of each router
abbrev pub AreUnchanged : Network → Internal → List (List Session) → List RouterState → List RouterState → Type 0
AreUnchanged net internal sessions state before = (r : ℕ) → r < length net.routers → IsUnchanged net internal sessions state before r

-- it reads no other router, and no line of it reads its own table: its table is that of its file and of OSPF, whatever anybody knows
pub record ReadsNothing (net : Network) (internal : Internal) (router : ℕ) : Type 0 where
  pub others : ReadsNoOthers net internal (configured_sessions net internal.links) router
  pub lines : HasNoLines net router

-- so it is of each router
abbrev pub AllReadNothing : Network → Internal → Type 0
AllReadNothing net internal = (r : ℕ) → r < length net.routers → ReadsNothing net internal r
