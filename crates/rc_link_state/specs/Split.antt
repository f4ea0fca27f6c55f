-- Which steps between the interfaces of a segment are listed, and which network stands for the others.
use Rattle.std.specs.Prelude.{ℕ, Bool, not, nat_lt, ◌&&◌, if◌then◌else◌, List, [], ◌∷◌, map, filter, length}
use Rattle.std.specs.List.{flat_map}
use Rattle.rc_topology.specs.Topology.{Topology}
use Rattle.rc_ospf_interfaces.specs.declared.interface.OspfInterface.{OspfInterface}
use Rattle.rc_link_state.specs.Adjacency.{is_adjacent, step_over}
use Rattle.rc_link_state.specs.Whole.{attached_of, is_whole}
use Rattle.rc_link_state.specs.declared.segment.Segment.{Segment}
use Rattle.rc_link_state.specs.declared.step.Step.{Step}
use Rattle.rc_link_state.specs.declared.transit.Transit.{Transit}

-- of some interfaces those that are whole, and those that aren't
abbrev pub whole_of : Topology → List OspfInterface → List OspfInterface
whole_of links members = filter (is_whole links) members

abbrev pub rest_of : Topology → List OspfInterface → List OspfInterface
rest_of links members = filter (λ i. not (is_whole links i)) members

-- more than three that are whole make a network
abbrev pub has_network : Topology → List OspfInterface → Bool
has_network links members = nat_lt 3 (length (whole_of links members))

abbrev pub network_of : Topology → ℕ → List OspfInterface → Transit
network_of links area members = record { area = area; attached = map attached_of (whole_of links members) }

abbrev pub networks_in : Topology → ℕ → List OspfInterface → List Transit
networks_in links area members = if has_network links members then network_of links area members ∷ [] else []

-- where there is a network it stands for the steps between whole ones: from a whole one only those to the rest are listed
abbrev pub steps_from : Topology → Bool → List OspfInterface → List OspfInterface → OspfInterface → List Step
steps_from links has members rest i = map (step_over i) (filter (is_adjacent links i) (if has && is_whole links i then rest else members))

abbrev pub listed_in : Topology → List OspfInterface → List Step
listed_in links members = flat_map (steps_from links (has_network links members) members (rest_of links members)) members

-- segment by segment
abbrev pub listed_row : Topology → Segment × List OspfInterface → List Step
listed_row links row = listed_in links row.1

abbrev pub networks_row : Topology → Segment × List OspfInterface → List Transit
networks_row links row = networks_in links (row.0).area row.1
