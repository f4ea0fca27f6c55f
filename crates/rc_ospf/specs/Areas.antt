-- OSPF between areas (RFC 2328 s.3.3, 3.6, 12.4.3 and 16.2): what border routers summarise of a destination, and the ways that this gives.
--
-- Each step stands on earlier ones alone: ways inside areas, summaries into the backbone, ways between areas there, summaries out of the
-- backbone, ways between areas outside of it.
use Rattle.std.specs.Prelude.{◌≡◌, ℕ, suc, ◌+◌, ◌==◌, nat_lt, Bool, false, not, ◌&&◌, if◌then◌else◌, List, [], ◌∷◌, filter, Option, Some, None, option_and_then}
use Rattle.std.specs.List.{filter_map, flat_map, list_any, cons_option}
use Rattle.std.specs.Option.{option_map, option_map_or}
use Rattle.rc_config.specs.declared.network.Network.{Network}
use Rattle.rc_route.specs.Ways.{Way}
use Rattle.rc_ospf.specs.Offered.{Offered}
use Rattle.rc_ospf.specs.RouterAreas.{router_areas, is_in, is_outside, is_border, open_areas}
use Rattle.rc_link_state.specs.Walks.{LeastWalks, Reach, IsReach}
use Rattle.rc_ospf.specs.Ways.{best_way, cost_of}
use Rattle.rc_link_state.specs.declared.step.Step.{Step}
use Rattle.rc_ospf.specs.declared.router_area.RouterArea.{RouterArea}
use Rattle.rc_ospf.specs.declared.summaries.Summaries.{Summaries}

-- a router as the others have it: its areas, and the least walks from it
pub record OspfRouter : Type 0 where
  pub router : ℕ
  pub areas : List RouterArea
  pub reach : Reach

pub record IsOspfRouter (net : Network) (steps : List Step) (r : ℕ) (m : OspfRouter) : Type 0 where
  pub router : m.router ≡ r
  pub areas : m.areas ≡ router_areas net r
  pub reach : IsReach steps r m.reach

-- they are those of the network from one on
abbrev pub AreOspfRouters : Network → List Step → ℕ → List OspfRouter → Type 0
AreOspfRouters net steps r [] = Unit {0}
AreOspfRouters net steps r (m ∷ ms) = IsOspfRouter net steps r m × AreOspfRouters net steps (suc r) ms

-- a router without its stub areas
abbrev pub without_stubs : OspfRouter → OspfRouter
without_stubs m = record { router = m.router; areas = open_areas m.areas; reach = m.reach }

abbrev pub offer : ℕ → ℕ → ℕ → Offered
offer router area cost = record { router = router; area = area; cost = cost }

abbrev pub is_offered_by : ℕ → Offered → Bool
is_offered_by r o = o.router == r

-- ---- summaries

-- the offer is in the area, and the way to it costs so much
abbrev pub costs_in : Reach → ℕ → ℕ → Offered → Bool
costs_in reach area cost o = (o.area == area) && option_map_or (λ (e : LeastWalks). e.cost + o.cost == cost) (reach o.area o.router) false

-- LSInfinity (RFC 2328, appendix B): a summary of that cost or more is not sent
abbrev pub sent : ℕ → Option ℕ
sent cost = if nat_lt cost 16777215 then Some cost else None

-- What a border router summarises into an area of a destination that it has inside areas at this cost. It is nothing where the area is
-- among those in which that cost is reached.
abbrev pub intra_summary : Reach → List Offered → ℕ → ℕ → Option ℕ
intra_summary reach inside area cost = if list_any (costs_in reach area cost) inside then None else sent cost

-- into the backbone a border router summarises what it has inside areas
abbrev pub backbone_summary : Reach → List Offered → Option ℕ
backbone_summary reach inside = option_and_then (intra_summary reach inside 0) (cost_of (best_way reach inside))

abbrev pub backbone_offer : List Offered → OspfRouter → Option Offered
backbone_offer inside b = if is_border b.areas then option_map (offer b.router 0) (backbone_summary b.reach inside) else None

abbrev pub backbone_summaries : List OspfRouter → List Offered → List Offered
backbone_summaries routers inside = filter_map (backbone_offer inside) routers

-- the way between areas of a router in the backbone: to another border router, and on at its summary
abbrev pub of_others : ℕ → List Offered → List Offered
of_others r offers = filter (λ o. not (is_offered_by r o)) offers

abbrev pub inter_in_backbone : OspfRouter → List Offered → Option (Way ℕ)
inter_in_backbone m backbone = best_way m.reach (of_others m.router backbone)

-- what it has between areas counts where it has nothing inside areas
abbrev pub where_none : Option ℕ → Option ℕ → Option ℕ
where_none (Some intra) inter = None
where_none None inter = inter

-- Out of the backbone a border router summarises what it has inside areas, and else what it has between areas, at these costs. With
-- `no-summary` it is nothing.
abbrev pub outward_cost : Reach → List Offered → ℕ → Option ℕ → Option ℕ → Option ℕ
outward_cost reach inside area (Some intra) inter = intra_summary reach inside area intra
outward_cost reach inside area None inter = option_and_then sent inter

abbrev pub outward_summary : Reach → List Offered → Option ℕ → Option ℕ → RouterArea → Option ℕ
outward_summary reach inside intra inter a = if a.no_summary then None else outward_cost reach inside a.area intra inter

-- into a stub area it sends the default route besides, at the cost 1 (RFC 2328 s.3.6)
abbrev pub stub_default : Bool → RouterArea → Option ℕ
stub_default is_default a = if is_default && a.is_stub then Some 1 else None

abbrev pub offers_into : ℕ → Bool → Option ℕ → RouterArea → List Offered
offers_into r is_default summary a = cons_option (option_map (offer r a.area) summary) (cons_option (option_map (offer r a.area) (stub_default is_default a)) [])

-- into one of its areas
abbrev pub offers_of : OspfRouter → Bool → List Offered → Option ℕ → Option ℕ → RouterArea → List Offered
offers_of b is_default inside intra inter a = offers_into b.router is_default (outward_summary b.reach inside intra inter a) a

abbrev pub intra_cost : OspfRouter → List Offered → Option ℕ
intra_cost b inside = cost_of (best_way b.reach inside)

abbrev pub inter_cost : OspfRouter → List Offered → Option ℕ → Option ℕ
inter_cost b backbone intra = where_none intra (cost_of (inter_in_backbone b backbone))

-- and into all of them but the backbone
abbrev pub outward_offers : Bool → List Offered → List Offered → OspfRouter → List Offered
outward_offers is_default inside backbone b =
    if is_border b.areas then flat_map (offers_of b is_default inside (intra_cost b inside) (inter_cost b backbone (intra_cost b inside))) (filter is_outside b.areas) else []

abbrev pub outward_summaries : List OspfRouter → Bool → List Offered → List Offered → List Offered
outward_summaries routers is_default inside backbone = flat_map (outward_offers is_default inside backbone) routers

-- all summaries of a destination, of which is said what is offered inside areas, and whether it is the default route
abbrev pub summaries_of : List OspfRouter → Bool → List Offered → Summaries
summaries_of routers is_default inside =
    let backbone = backbone_summaries routers inside in record { backbone = backbone; outward = outward_summaries routers is_default inside backbone }

-- ---- ways

-- The way between areas: in the backbone as above, so that a border router uses summaries of the backbone only. Outside of it to a border
-- router of one of the router's areas, and on at its summary into that area.
abbrev pub inter : OspfRouter → Summaries → Option (Way ℕ)
inter m s = if is_in 0 m.areas then inter_in_backbone m s.backbone else best_way m.reach s.outward
