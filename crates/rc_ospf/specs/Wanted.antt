-- Which summaries are wanted: who has a destination inside areas has no use for them.
use Rattle.std.specs.Prelude.{◌≡◌, ℕ, Bool, false, not, List, [], None, Contains, is_some}
use Rattle.std.specs.List.{list_any}
use Rattle.rc_base.specs.Prefix.{is_default}
use Rattle.rc_config.specs.declared.network.Network.{Network}
use Rattle.rc_link_state.specs.Walks.{Reach}
use Rattle.rc_ospf.specs.Areas.{OspfRouter, summaries_of, inter}
use Rattle.rc_ospf.specs.Boundaries.{boundary_offers}
use Rattle.rc_ospf.specs.Members.{reach_of}
use Rattle.rc_ospf.specs.Offered.{Offered}
use Rattle.rc_ospf.specs.Ways.{best_way}
use Rattle.rc_ospf.specs.declared.boundary.Target.{Target}
use Rattle.rc_ospf.specs.declared.destination.Destination.{Destination}
use Rattle.rc_ospf.specs.declared.grouping.Row.{Row}
use Rattle.rc_ospf.specs.declared.ospf_router.Member.{Member}
use Rattle.rc_ospf.specs.declared.summaries.Summaries.{Summaries}

abbrev pub is_reached : Reach → Offered → Bool
is_reached reach o = is_some (reach o.area o.router)

-- some offer is reached inside its area; a router's own is by the walk without steps
abbrev pub has_inside : Reach → List Offered → Bool
has_inside reach inside = list_any (is_reached reach) inside

abbrev pub lacks_inside : List Offered → Member → Bool
lacks_inside inside m = not (has_inside (reach_of m) inside)

abbrev pub nothing : Summaries
nothing = record { backbone = []; outward = [] }

-- By these summaries each of the routers that has no way inside areas has the same way between areas as by all summaries.
pub record Suffice (routers : List OspfRouter) (is_default : Bool) (inside : List Offered) (s : Summaries) : Type 0 where
  pub alike : (m : OspfRouter) → Contains routers m → best_way m.reach inside ≡ None → inter m s ≡ inter m (summaries_of routers is_default inside)

-- a row's prefix with what is offered of it inside areas, and summaries that suffice
pub record IsDestination (routers : List OspfRouter) (row : Row) (d : Destination) : Type 0 where
  pub prefix : d.prefix ≡ row.prefix
  pub inside : d.inside ≡ row.offers
  pub summaries : Suffice routers (is_default row.prefix) row.offers d.summaries

-- an AS boundary router with what it offers of itself, and summaries that suffice
pub record IsTarget (net : Network) (routers : List OspfRouter) (s : ℕ) (t : Target) : Type 0 where
  pub router : t.router ≡ s
  pub inside : t.inside ≡ boundary_offers net s
  pub summaries : Suffice routers false (boundary_offers net s) t.summaries
