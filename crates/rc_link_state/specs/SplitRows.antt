-- Worked cases of segments, networks and listed steps on one subnet, each by computation.
use Rattle.std.specs.Prelude.{◌≡◌, ℕ, ◌+◌, ◌*◌, true, false, List, [], ◌∷◌, ◌++◌, map, Some, refl}
use Rattle.std.specs.List.{range_with_len}
use Rattle.rc_base.specs.Prefix.{Cidr}
use Rattle.rc_base.specs.declared.position.IfId.{IfId}
use Rattle.rc_config.specs.declared.if_type.IfType.TheVariants.{Ethernet, Loopback}
use Rattle.rc_config.specs.declared.network.Pair.{Pair}
use Rattle.rc_config.specs.declared.ospf.NetworkType.TheVariants.{Broadcast, PointToPoint}
use Rattle.rc_topology.specs.Topology.{Topology}
use Rattle.rc_topology.specs.declared.port.Port.{Port}
use Rattle.rc_ospf_interfaces.specs.declared.interface.OspfInterface.{OspfInterface}
use Rattle.rc_link_state.specs.Grouping.{interfaces_of, segment_of}
use Rattle.rc_link_state.specs.Split.{listed_in, networks_in}
use Rattle.rc_link_state.specs.declared.segment.Segment.{Segment}
use Rattle.rc_link_state.specs.declared.step.Step.{Step}
use Rattle.rc_link_state.specs.declared.transit.Attached.{Attached}
use Rattle.rc_link_state.specs.declared.transit.Transit.{Transit}

-- 10.0.0.0/24
abbrev subnet : Cidr
subnet = record { network = 10 * 16777216; len = 24 }

abbrev id : ℕ → ℕ → IfId
id router index = record { router = router; index = index }

-- the interface of a router there, at the cost 10, in area 0
abbrev interface : ℕ → ℕ → OspfInterface
interface router index = record {
  id = id router index;
  area = 0;
  cost = 10;
  addr = 10 * 16777216 + 1 + 16 * router + index;
  prefix = subnet;
  network = Broadcast;
  hello = 10;
  dead = 40;
  is_stub = false;
  is_passive = false;
}

-- one of each of so many routers
abbrev of_each : ℕ → List OspfInterface
of_each n = map (λ r. interface r 0) (range_with_len 0 n)

abbrev port : Port
port = record { addresses = []; prefixes = subnet ∷ []; kind = Some Ethernet }

-- each router has two ports there, and the network is cut between these pairs
abbrev links : ℕ → List Pair → Topology
links n cuts = record { ports = map (λ r. port ∷ port ∷ []) (range_with_len 0 n); cuts = cuts }

abbrev between : ℕ → ℕ → Pair
between r s = record { first = id r 0; second = id s 0 }

-- a step by its routers, and a network by its routers
abbrev told : Step → ℕ × ℕ
told s = (s.out.router, s.to)

abbrev attached : Transit → List ℕ
attached t = map (λ (i : Attached). i.out.router) t.attached

-- those of a segment
abbrev steps_in : Segment → ℕ → List Pair → List OspfInterface → List (ℕ × ℕ)
steps_in s n cuts interfaces = map told (listed_in (links n cuts) (interfaces_of (links n cuts) s interfaces))

abbrev networks_of : Segment → ℕ → List Pair → List OspfInterface → List (List ℕ)
networks_of s n cuts interfaces = map attached (networks_in (links n cuts) s.area (interfaces_of (links n cuts) s interfaces))

-- those of the segment on which such interfaces are
abbrev usual : Segment
usual = segment_of (interface 0 0)

abbrev steps : ℕ → List Pair → List OspfInterface → List (ℕ × ℕ)
steps = steps_in usual

abbrev networks : ℕ → List Pair → List OspfInterface → List (List ℕ)
networks = networks_of usual

-- of three all steps are listed
pub three_have_none : networks 3 [] (of_each 3) ≡ []
three_have_none = refl

pub three_are_listed : steps 3 [] (of_each 3) ≡ (0, 1) ∷ (0, 2) ∷ (1, 0) ∷ (1, 2) ∷ (2, 0) ∷ (2, 1) ∷ []
three_are_listed = refl

-- four make a network, and nothing is listed
pub four_have_one : networks 4 [] (of_each 4) ≡ (0 ∷ 1 ∷ 2 ∷ 3 ∷ []) ∷ []
four_have_one = refl

pub four_list_nothing : steps 4 [] (of_each 4) ≡ []
four_list_nothing = refl

-- not so where one of the four is passive: three have neighbours
abbrev passive : OspfInterface → OspfInterface
passive i = record i { is_passive = true }

pub one_is_passive : networks 4 [] (of_each 3 ++ passive (interface 3 0) ∷ []) ≡ []
one_is_passive = refl

pub one_is_passive_listed : steps 4 [] (of_each 3 ++ passive (interface 3 0) ∷ []) ≡ (0, 1) ∷ (0, 2) ∷ (1, 0) ∷ (1, 2) ∷ (2, 0) ∷ (2, 1) ∷ []
one_is_passive_listed = refl

-- of five that are cut between two, three are whole: no network, and all steps are listed but the cut ones
pub five_cut : networks 5 (between 3 4 ∷ []) (of_each 5) ≡ []
five_cut = refl

pub five_cut_listed : steps 5 (between 3 4 ∷ []) (of_each 5)
    ≡ (0, 1) ∷ (0, 2) ∷ (0, 3) ∷ (0, 4) ∷ (1, 0) ∷ (1, 2) ∷ (1, 3) ∷ (1, 4) ∷ (2, 0) ∷ (2, 1) ∷ (2, 3) ∷ (2, 4) ∷ (3, 0) ∷ (3, 1) ∷ (3, 2) ∷ (4, 0) ∷ (4, 1) ∷ (4, 2) ∷ []
five_cut_listed = refl

-- of six four are: their network stands, and the steps of the two others are listed both ways, but for the cut ones
pub six_cut : networks 6 (between 4 5 ∷ []) (of_each 6) ≡ (0 ∷ 1 ∷ 2 ∷ 3 ∷ []) ∷ []
six_cut = refl

pub six_cut_listed : steps 6 (between 4 5 ∷ []) (of_each 6)
    ≡ (0, 4) ∷ (0, 5) ∷ (1, 4) ∷ (1, 5) ∷ (2, 4) ∷ (2, 5) ∷ (3, 4) ∷ (3, 5) ∷ (4, 0) ∷ (4, 1) ∷ (4, 2) ∷ (4, 3) ∷ (5, 0) ∷ (5, 1) ∷ (5, 2) ∷ (5, 3) ∷ []
six_cut_listed = refl

-- two areas on one subnet: four of area 0 make a network, and two of area 7 have their steps listed
abbrev in_seven : OspfInterface → OspfInterface
in_seven i = record i { area = 7 }

abbrev seventh : Segment
seventh = segment_of (in_seven (interface 0 0))

abbrev four_and_two : List OspfInterface
four_and_two = of_each 4 ++ in_seven (interface 4 0) ∷ in_seven (interface 5 0) ∷ []

pub two_areas_attached : networks 6 [] four_and_two ≡ (0 ∷ 1 ∷ 2 ∷ 3 ∷ []) ∷ []
two_areas_attached = refl

pub two_areas_none_listed : steps 6 [] four_and_two ≡ []
two_areas_none_listed = refl

pub two_areas_no_network : networks_of seventh 6 [] four_and_two ≡ []
two_areas_no_network = refl

pub two_areas_listed : steps_in seventh 6 [] four_and_two ≡ (4, 5) ∷ (5, 4) ∷ []
two_areas_listed = refl

-- and where each area has four, each has a network
abbrev four_and_four : List OspfInterface
four_and_four = of_each 4 ++ map (λ r. in_seven (interface r 1)) (range_with_len 0 4)

pub first_network : networks 4 [] four_and_four ≡ (0 ∷ 1 ∷ 2 ∷ 3 ∷ []) ∷ []
first_network = refl

pub second_network : networks_of seventh 4 [] four_and_four ≡ (0 ∷ 1 ∷ 2 ∷ 3 ∷ []) ∷ []
second_network = refl

pub second_area : map (λ (t : Transit). t.area) (networks_in (links 4 []) seventh.area (interfaces_of (links 4 []) seventh four_and_four)) ≡ 7 ∷ []
second_area = refl

-- interfaces that agree in pairs, with two hello intervals on one subnet: steps inside each pair, and no network of the four
abbrev every_twenty : OspfInterface → OspfInterface
every_twenty i = record i { hello = 20 }

abbrev two_pairs : List OspfInterface
two_pairs = interface 0 0 ∷ every_twenty (interface 1 0) ∷ interface 2 0 ∷ every_twenty (interface 3 0) ∷ []

pub first_pair : steps 4 [] two_pairs ≡ (0, 2) ∷ (2, 0) ∷ []
first_pair = refl

pub second_pair : steps_in (segment_of (every_twenty (interface 0 0))) 4 [] two_pairs ≡ (1, 3) ∷ (3, 1) ∷ []
second_pair = refl

pub pairs_have_none : networks 4 [] two_pairs ≡ []
pairs_have_none = refl

-- each other difference parts them too
abbrev apart : (OspfInterface → OspfInterface) → List (ℕ × ℕ)
apart change = steps 2 [] (interface 0 0 ∷ change (interface 1 0) ∷ [])

pub by_dead_interval : apart (λ i. record i { dead = 41 }) ≡ []
by_dead_interval = refl

pub by_stub_flag : apart (λ i. record i { is_stub = true }) ≡ []
by_stub_flag = refl

pub by_network_type : apart (λ i. record i { network = PointToPoint }) ≡ []
by_network_type = refl

pub by_nothing : apart (λ i. i) ≡ (0, 1) ∷ (1, 0) ∷ []
by_nothing = refl

-- two interfaces of one router on a subnet: no step between them, and they count as two of a network
pub one_router : steps 2 [] (interface 0 0 ∷ interface 0 1 ∷ interface 1 0 ∷ []) ≡ (0, 1) ∷ (0, 1) ∷ (1, 0) ∷ (1, 0) ∷ []
one_router = refl

pub one_router_attached : networks 3 [] (interface 0 0 ∷ interface 0 1 ∷ interface 1 0 ∷ interface 2 0 ∷ []) ≡ (0 ∷ 0 ∷ 1 ∷ 2 ∷ []) ∷ []
one_router_attached = refl

pub one_router_twice : steps 1 [] (interface 0 0 ∷ interface 0 1 ∷ []) ≡ []
one_router_twice = refl

-- a loopback is of no segment: a link has none
abbrev with_a_loopback : Topology
with_a_loopback = record { ports = (record port { kind = Some Loopback } ∷ port ∷ []) ∷ []; cuts = [] }

pub no_loopbacks : interfaces_of with_a_loopback usual (interface 0 0 ∷ interface 0 1 ∷ []) ≡ interface 0 1 ∷ []
no_loopbacks = refl
