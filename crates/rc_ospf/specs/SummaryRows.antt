-- Worked cases of summaries that no table shows, each by computation.
use Rattle.std.specs.Prelude.{◌≡◌, false, ℕ, ◌==◌, if◌then◌else◌, List, [], ◌∷◌, Some, None, refl}
use Rattle.rc_base.specs.Prefix.{Cidr}
use Rattle.rc_config.specs.IfType.{type_of}
use Rattle.rc_config.specs.declared.network.Network.{Network}
use Rattle.rc_topology.specs.Ports.{links_of}
use Rattle.rc_link_state.specs.Adjacency.{adjacencies}
use Rattle.rc_ospf.specs.AreaRows.{host, chain}
use Rattle.rc_ospf.specs.Areas.{OspfRouter, offer, sent, summaries_of}
use Rattle.rc_ospf_interfaces.specs.Interfaces.{ospf_interfaces}
use Rattle.rc_ospf.specs.Internal.{adverts_in}
use Rattle.rc_ospf.specs.Offered.{Offered}
use Rattle.rc_ospf.specs.Plain.{routers_within}
use Rattle.rc_ospf.specs.RouteRows.{prefix}
use Rattle.rc_ospf.specs.Routes.{offers_at}
use Rattle.rc_link_state.specs.Walks.{Reach}
use Rattle.rc_ospf.specs.declared.router_area.RouterArea.{RouterArea}
use Rattle.rc_ospf.specs.declared.summaries.Summaries.{Summaries}

abbrev of_prefix : Network → Cidr → Summaries
of_prefix net p = summaries_of (routers_within 2 net) false (offers_at p (adverts_in net))

-- ---- a, b, c and d in a row, as above: what is in area 1 isn't summarised into it, nor what is in area 0 into that

pub of_area_one : of_prefix chain (host 1) ≡ record { backbone = offer 1 0 65 ∷ []; outward = offer 2 2 129 ∷ [] }
unfolding ospf_interfaces adjacencies links_of type_of
of_area_one = refl

pub of_the_backbone : of_prefix chain (prefix 256 24) ≡ record { backbone = []; outward = offer 1 1 64 ∷ offer 2 2 64 ∷ [] }
unfolding ospf_interfaces adjacencies links_of type_of
of_the_backbone = refl

-- ---- a border router in areas 0, 1, 2 and 3, from which every router is reached at the cost 10 in its area

abbrev plain : ℕ → RouterArea
plain n = record { area = n; is_stub = false; no_summary = false }

abbrev at : ℕ → Reach
at n area s = Some (record { cost = n; hops = [] })

abbrev border : ℕ → OspfRouter
border n = record { router = 7; areas = plain 0 ∷ plain 1 ∷ plain 2 ∷ plain 3 ∷ []; reach = at n }

abbrev summaries : ℕ → List Offered → Summaries
summaries n inside = summaries_of (border n ∷ []) false inside

-- offered at one cost in areas 1 and 2: of these areas neither hears it
pub reached_in_two_areas : summaries 10 (offer 1 1 5 ∷ offer 2 2 5 ∷ []) ≡ record { backbone = offer 7 0 15 ∷ []; outward = offer 7 3 15 ∷ [] }
reached_in_two_areas = refl

-- an area in which it is dearer hears it
pub dearer_in_one_area : summaries 10 (offer 1 1 5 ∷ offer 2 2 6 ∷ []) ≡ record { backbone = offer 7 0 15 ∷ []; outward = offer 7 2 15 ∷ offer 7 3 15 ∷ [] }
dearer_in_one_area = refl

-- so does the backbone, or not
pub dearer_in_the_backbone : summaries 10 (offer 1 1 5 ∷ offer 2 0 6 ∷ []) ≡ record { backbone = offer 7 0 15 ∷ []; outward = offer 7 2 15 ∷ offer 7 3 15 ∷ [] }
dearer_in_the_backbone = refl

pub as_cheap_in_the_backbone : summaries 10 (offer 1 1 5 ∷ offer 2 0 5 ∷ []) ≡ record { backbone = []; outward = offer 7 2 15 ∷ offer 7 3 15 ∷ [] }
as_cheap_in_the_backbone = refl

-- ---- LSInfinity is no cost of a summary

pub greatest_cost : sent 16777214 ≡ Some 16777214
greatest_cost = refl

pub infinity : sent 16777215 ≡ None
infinity = refl

pub at_the_greatest : summaries 16777150 (offer 1 1 64 ∷ []) ≡ record { backbone = offer 7 0 16777214 ∷ []; outward = offer 7 2 16777214 ∷ offer 7 3 16777214 ∷ [] }
at_the_greatest = refl

pub above_the_greatest : summaries 16777150 (offer 1 1 65 ∷ []) ≡ record { backbone = []; outward = [] }
above_the_greatest = refl

-- between areas too
abbrev far : OspfRouter
far = record { router = 8; areas = plain 0 ∷ plain 4 ∷ []; reach = λ area s. if area == 0 then Some (record { cost = 16777150; hops = [] }) else None }

pub far_between : summaries_of (border 10 ∷ far ∷ []) false (offer 1 1 54 ∷ []) ≡ record { backbone = offer 7 0 64 ∷ []; outward = offer 7 2 64 ∷ offer 7 3 64 ∷ offer 8 4 16777214 ∷ [] }
far_between = refl

pub too_far_between : summaries_of (border 10 ∷ far ∷ []) false (offer 1 1 55 ∷ []) ≡ record { backbone = offer 7 0 65 ∷ []; outward = offer 7 2 65 ∷ offer 7 3 65 ∷ [] }
too_far_between = refl
