-- Who knows the same in two states: the one after a round, and the one before it.
use Rattle.std.specs.Prelude.{◌≡◌, ◌⊎◌, ℕ, ◌<◌, Bool, true, List, [], Option, Some, MatchOption, length, slice_get}
use Rattle.std.specs.List.{AllByRecursion}
use Rattle.rc_bgp.specs.Changes.{CoversChange}
use Rattle.rc_bgp.specs.RouterStates.{paths_of, table_of}
use Rattle.rc_bgp.specs.Sessions.{sessions_of}
use Rattle.rc_bgp_session.specs.declared.session.Session.{Session}
use Rattle.rc_config.specs.declared.network.Network.{Network}
use Rattle.rc_ospf.specs.Boundaries.{is_boundary}
use Rattle.rc_ospf.specs.Internal.{boundaries_of}
use Rattle.rc_ospf.specs.declared.model.Internal.{Internal}
use Rattle.rc_reads.specs.declared.stayed.Stayed.{Stayed}
use Rattle.rc_rib.specs.Next.{next_router}
use Rattle.rc_rib.specs.declared.made.Made.{Made}
use Rattle.rc_route.specs.Tables.{IsRouterState}
use Rattle.rc_route.specs.declared.state.RouterState.{RouterState}

-- the flag of a router is set only where both states tell the same of it
abbrev pub AreFlagged : List Bool → List RouterState → List RouterState → Type 0
AreFlagged flags old now = (s : ℕ) → slice_get flags s ≡ Some true → slice_get old s ≡ slice_get now s

-- the flags of all AS boundary routers are set
abbrev pub BoundariesAreFlagged : Network → List Bool → Type 0
BoundariesAreFlagged net flags = (s : ℕ) → s < length net.routers → is_boundary net s ≡ true → slice_get flags s ≡ Some true

-- flags are set only where both states tell the same: of a router, and of each AS boundary router
pub record HaveStayed (net : Network) (stayed : Stayed) (old now : List RouterState) : Type 0 where
  pub routers : AreFlagged stayed.routers old now
  pub boundaries : stayed.boundaries ≡ true → BoundariesAreFlagged net stayed.routers

-- By these flags both states tell the same of the router and of the sender of each session to it. So they do of each AS boundary router,
-- or the router has no path to one.
pub record ReadsTheSame (internal : Internal) (sessions : List (List Session)) (stayed : Stayed) (r : ℕ) : Type 0 where
  pub itself : slice_get stayed.routers r ≡ Some true
  pub senders : AllByRecursion (λ (s : Session). slice_get stayed.routers s.sender ≡ Some true) (sessions_of sessions r)
  pub boundaries : (stayed.boundaries ≡ true) ⊎ (boundaries_of internal r ≡ [])

-- ---- what a round makes of a router

-- the flag of the router is set, and what it knows in the state it knows again after a round from there
pub record KnowsAgain (net : Network) (internal : Internal) (flags : List Bool) (now : List RouterState) (r : ℕ) : Type 0 where
  pub flag : slice_get flags r ≡ Some true
  pub same : slice_get now r ≡ Some (next_router net internal now r)

-- this is what the router knows after a round from the state, in order, the flag is set only where its table is the same, and all is told that
-- changed in its best paths
pub record IsMade (net : Network) (internal : Internal) (now : List RouterState) (r : ℕ) (m : Made) : Type 0 where
  pub state : m.state ≡ next_router net internal now r
  pub in_order : IsRouterState m.state
  pub same_table : m.has_same_table ≡ true → m.state.table ≡ table_of now r
  pub changed : CoversChange m.changed (paths_of now r) m.state.paths

-- what is made anew of the router is that, and where nothing is, it knows the same again
abbrev pub IsMadeAnew : Network → Internal → List Bool → List RouterState → ℕ → Option Made → Type 0
IsMadeAnew net internal flags now r made = MatchOption made (KnowsAgain net internal flags now r) (IsMade net internal now r)
