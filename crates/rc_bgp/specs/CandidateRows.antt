-- Worked cases of origination, candidates and best paths, each by computation.
use Rattle.std.specs.Prelude.{◌≡◌, List, [], ◌∷◌, map, Option, Some, None, refl}
use Rattle.rc_base.specs.Prefix.{prefix_at}
use Rattle.rc_config.specs.Bgp.{with_own}
use Rattle.rc_config.specs.IfType.{type_of}
use Rattle.rc_config.specs.declared.bgp.Neighbor.{Neighbor}
use Rattle.rc_config.specs.declared.bgp.NeighborSetting.TheVariants.{DefaultOriginate}
use Rattle.rc_config.specs.declared.network.Network.{Network}
use Rattle.rc_config.specs.declared.router_text.RouterText.{RouterText}
use Rattle.rc_fib.specs.Forwarding.{hops_within}
use Rattle.rc_route.specs.Best.{alone}
use Rattle.rc_route.specs.declared.best.Best.{Best}
use Rattle.rc_route.specs.declared.path.BgpPath.{BgpPath}
use Rattle.rc_route.specs.declared.path.PathSource.TheVariants.{Network as ByNetwork, External, Internal}
use Rattle.rc_route.specs.declared.route.Hop.TheVariants.{Null, Via}
use Rattle.rc_route.specs.declared.route.Route.{Route}
use Rattle.rc_route.specs.declared.route.Source.TheVariants.{Ebgp, Ospf}
use Rattle.rc_route.specs.declared.state.RouterState.{RouterState}
use Rattle.rc_topology.specs.Ports.{links_of}
use Rattle.rc_bgp_decide.specs.Multipath.{multi_places}
use Rattle.rc_bgp.specs.Candidates.{best_paths, candidates}
use Rattle.rc_bgp.specs.Learning.{learned_route}
use Rattle.rc_bgp_session.specs.Nets.{ip, subnet, gigabit, gigabit_1, on, peer, process, router, two, three, external, internal, connected, static, knows, ninth}
use Rattle.rc_bgp.specs.Originating.{by_networks}
use Rattle.rc_bgp.specs.Sessions.{configured_sessions, sessions}
use Rattle.rc_bgp.specs.Speakers.{speakers}
use Rattle.rc_bgp.specs.Telling.{listed_for, offered, told_inside}
use Rattle.rc_bgp_session.specs.declared.session.Session.{Session}

-- ---- `network 10.0.9.0 mask 255.255.255.0`

abbrev from : List Route → List BgpPath
from table = by_networks 3 table (subnet 9 ∷ [])

pub of_a_connected_route : from (connected 3 (subnet 9) 1 ∷ []) ≡ ninth 3 ByNetwork ∷ []
of_a_connected_route = refl

-- the MED is the route's metric
pub of_an_ospf_route : from (record (connected 3 (subnet 9) 1) { source = Ospf; distance = 110; metric = 12 } ∷ []) ≡ record (ninth 3 ByNetwork) { med = 12 } ∷ []
of_an_ospf_route = refl

pub of_no_route : from (connected 3 (subnet 8) 1 ∷ []) ≡ []
of_no_route = refl

-- a shorter prefix that holds it is not that prefix
pub of_a_shorter_prefix : from (connected 3 (prefix_at (ip 9 0) 16) 1 ∷ []) ≡ []
of_a_shorter_prefix = refl

pub of_a_bgp_route : from (record (static (subnet 9) (ip 12 1)) { source = Ebgp; distance = 20 } ∷ []) ≡ []
of_a_bgp_route = refl

-- two lines of one prefix make one path, and paths stand in order
pub twice_and_in_order : by_networks 3 (connected 3 (subnet 8) 0 ∷ connected 3 (subnet 9) 1 ∷ []) (subnet 9 ∷ subnet 8 ∷ subnet 9 ∷ []) ≡ record (ninth 3 ByNetwork) { prefix = subnet 8 } ∷ ninth 3 ByNetwork ∷ []
twice_and_in_order = refl

-- ---- R1 of AS 65001 has 10.0.9.0/24 and a session with R2 of AS 65002 on 10.0.12.0/24

abbrev r1 : Neighbor → RouterText
r1 n = router ((gigabit, on 12 1 24) ∷ (gigabit_1, on 9 1 24) ∷ []) (record (process 65001 (n ∷ [])) { networks = subnet 9 ∷ [] })

abbrev r2 : RouterText
r2 = router ((gigabit, on 12 2 24) ∷ []) (process 65002 (peer (ip 12 1) 65001 ∷ []))

abbrev pair : Neighbor → Network
pair n = two (r1 n) r2

abbrev plain : Network
plain = pair (peer (ip 12 2) 65002)

abbrev one_session : List (List Session)
one_session = (external 1 (ip 12 2) 0 (ip 12 1) ∷ []) ∷ (external 0 (ip 12 1) 1 (ip 12 2) ∷ []) ∷ []

-- what R1 knows, and R2 with this table
abbrev state : List Route → List RouterState
state table = knows (connected 0 (subnet 9) 1 ∷ connected 0 (subnet 12) 0 ∷ []) (ninth 0 ByNetwork ∷ []) ∷ knows table [] ∷ []

abbrev heard_by_r2 : BgpPath
heard_by_r2 = record (ninth 0 External) { next_hop = ip 12 1; weight = 0; as_path = 65001 ∷ []; sender_id = ip 12 1; neighbor = ip 12 1 }

pub r2_hears_r1 : best_paths plain one_session (state (connected 1 (subnet 12) 0 ∷ [])) 1 ≡ map alone (heard_by_r2 ∷ [])
unfolding best_paths hops_within multi_places
r2_hears_r1 = refl

pub r1_keeps_its_own : best_paths plain one_session (state (connected 1 (subnet 12) 0 ∷ [])) 0 ≡ map alone (ninth 0 ByNetwork ∷ [])
unfolding best_paths hops_within multi_places
r1_keeps_its_own = refl

-- nothing is heard over a session that isn't there
pub no_session : best_paths plain ([] ∷ [] ∷ []) (state (connected 1 (subnet 12) 0 ∷ [])) 1 ≡ []
unfolding best_paths hops_within multi_places
no_session = refl

-- a next hop that doesn't resolve, one that is null-routed, and one that only a default route holds
pub no_next_hop : best_paths plain one_session (state []) 1 ≡ []
unfolding best_paths hops_within multi_places
no_next_hop = refl

pub null_next_hop : best_paths plain one_session (state (record (static (subnet 12) 0) { hops = Null ∷ [] } ∷ [])) 1 ≡ []
unfolding best_paths hops_within multi_places
null_next_hop = refl

pub next_hop_by_default : best_paths plain one_session (state (record (static (prefix_at 0 0) (ip 23 3)) { metric = 6 } ∷ connected 1 (subnet 23) 0 ∷ [])) 1 ≡ map alone (record heard_by_r2 { igp_metric = 6 } ∷ [])
unfolding best_paths hops_within multi_places
next_hop_by_default = refl

-- `default-originate` sends the default route beside the others, and in place of a best path for it
abbrev default_of_r1 : BgpPath
default_of_r1 = record heard_by_r2 { prefix = prefix_at 0 0 }

pub default_originate : best_paths (pair (with_own (peer (ip 12 2) 65002) DefaultOriginate)) one_session (state (connected 1 (subnet 12) 0 ∷ [])) 1 ≡ map alone (default_of_r1 ∷ heard_by_r2 ∷ [])
unfolding best_paths hops_within multi_places
default_originate = refl

pub default_in_place : best_paths (pair (with_own (peer (ip 12 2) 65002) DefaultOriginate)) one_session
    (knows [] (record (ninth 0 External) { prefix = prefix_at 0 0; med = 70; as_path = 65003 ∷ [] } ∷ []) ∷ knows (connected 1 (subnet 12) 0 ∷ []) [] ∷ []) 1 ≡ map alone (default_of_r1 ∷ [])
unfolding best_paths hops_within multi_places
default_in_place = refl

-- ---- R1, R2 and R3 of one AS in a chain: R3 doesn't hear of 10.0.9.0/24, though its next hop resolves there

abbrev chain : Network
chain = three
    (router ((gigabit, on 12 1 24) ∷ (gigabit_1, on 9 1 24) ∷ []) (record (process 65000 (peer (ip 12 2) 65000 ∷ [])) { networks = subnet 9 ∷ [] }))
    (router ((gigabit, on 12 2 24) ∷ (gigabit_1, on 23 2 24) ∷ []) (process 65000 (peer (ip 12 1) 65000 ∷ peer (ip 23 3) 65000 ∷ [])))
    (router ((gigabit, on 23 3 24) ∷ []) (process 65000 (peer (ip 23 2) 65000 ∷ [])))

abbrev chain_sessions : List (List Session)
chain_sessions = (internal 1 (ip 12 2) 0 (ip 12 1) ∷ []) ∷ (internal 0 (ip 12 1) 1 (ip 12 2) ∷ internal 2 (ip 23 3) 1 (ip 23 2) ∷ []) ∷ (internal 1 (ip 23 2) 2 (ip 23 3) ∷ []) ∷ []

abbrev heard_inside : BgpPath
heard_inside = record (ninth 0 Internal) { next_hop = ip 12 1; weight = 0; sender_id = ip 12 1; neighbor = ip 12 1 }

abbrev chain_state : List BgpPath → List RouterState
chain_state second =
    knows (connected 0 (subnet 9) 1 ∷ connected 0 (subnet 12) 0 ∷ []) (ninth 0 ByNetwork ∷ [])
    ∷ knows (connected 1 (subnet 12) 0 ∷ connected 1 (subnet 23) 1 ∷ []) second
    ∷ knows (static (subnet 12) (ip 23 2) ∷ connected 2 (subnet 23) 0 ∷ []) [] ∷ []

pub second_hears : best_paths chain chain_sessions (chain_state []) 1 ≡ map alone (heard_inside ∷ [])
unfolding best_paths hops_within multi_places
second_hears = refl

pub third_does_not : best_paths chain chain_sessions (chain_state (heard_inside ∷ [])) 2 ≡ []
unfolding best_paths hops_within multi_places
third_does_not = refl

-- R1 may tell its own path inside, and R2 none, since an internal peer told it
pub told_once_inside : told_inside chain_sessions (chain_state (heard_inside ∷ [])) ≡ Some (map alone (ninth 0 ByNetwork ∷ [])) ∷ Some [] ∷ Some [] ∷ []
told_once_inside = refl

-- of routers without internal peers nothing is listed, and all their paths are gone through
pub none_told_inside : told_inside one_session (state []) ≡ None ∷ None ∷ []
none_told_inside = refl

pub all_offered_outside : offered (None ∷ None ∷ []) (state []) (external 0 (ip 12 1) 1 (ip 12 2)) ≡ map alone (ninth 0 ByNetwork ∷ [])
all_offered_outside = refl

-- what is listed of a router is gone through for internal sessions alone, and in place of all its paths
abbrev one_listed : List (Option (List Best))
one_listed = Some (alone (ninth 2 ByNetwork) ∷ []) ∷ None ∷ []

pub listed_over_an_internal_session : listed_for one_listed (internal 0 (ip 12 1) 1 (ip 12 2)) ≡ Some (alone (ninth 2 ByNetwork) ∷ [])
listed_over_an_internal_session = refl

pub not_over_an_external_one : listed_for one_listed (external 0 (ip 12 1) 1 (ip 12 2)) ≡ None
not_over_an_external_one = refl

pub not_of_a_router_without_a_list : listed_for one_listed (internal 1 (ip 12 2) 0 (ip 12 1)) ≡ None
not_of_a_router_without_a_list = refl

pub not_past_the_end : listed_for one_listed (internal 2 (ip 23 3) 1 (ip 23 2)) ≡ None
not_past_the_end = refl

pub listed_are_offered : offered one_listed (state []) (internal 0 (ip 12 1) 1 (ip 12 2)) ≡ alone (ninth 2 ByNetwork) ∷ []
listed_are_offered = refl

pub all_offered_without_a_list : offered (None ∷ []) (state []) (internal 0 (ip 12 1) 1 (ip 12 2)) ≡ map alone (ninth 0 ByNetwork ∷ [])
all_offered_without_a_list = refl

-- ---- candidates stand by prefix: what the router originates first, then by sender

abbrev crowded : List RouterState
crowded = knows (connected 0 (subnet 12) 0 ∷ []) (ninth 0 ByNetwork ∷ []) ∷ knows (connected 1 (subnet 9) 1 ∷ connected 1 (subnet 12) 0 ∷ connected 1 (subnet 23) 1 ∷ []) [] ∷ knows [] (ninth 2 ByNetwork ∷ []) ∷ []

abbrev crowded_net : Network
crowded_net = three
    (router ((gigabit, on 12 1 24) ∷ []) (process 65001 (peer (ip 12 2) 65002 ∷ [])))
    (router ((gigabit, on 12 2 24) ∷ (gigabit_1, on 23 2 24) ∷ []) (record (process 65002 (peer (ip 12 1) 65001 ∷ peer (ip 23 3) 65003 ∷ [])) { networks = subnet 9 ∷ [] }))
    (router ((gigabit, on 23 3 24) ∷ []) (process 65003 (peer (ip 23 2) 65002 ∷ [])))

pub all_for_one_prefix : candidates crowded_net (sessions crowded_net (links_of crowded_net) crowded) 1 crowded
    ≡ ninth 1 ByNetwork ∷ heard_by_r2 ∷ record (ninth 2 External) { next_hop = ip 23 3; weight = 0; as_path = 65003 ∷ []; sender_id = ip 23 3; neighbor = ip 23 3 } ∷ []
unfolding candidates configured_sessions hops_within links_of sessions speakers type_of
all_for_one_prefix = refl

abbrev both_ways : List Session
both_ways = external 1 (ip 12 2) 0 (ip 12 1) ∷ external 0 (ip 12 1) 1 (ip 12 2) ∷ []

-- ---- before R1 has chosen R2 hears nothing, and R1 has its own path; what R2 hears then makes its route
abbrev chosen : List BgpPath → List RouterState
chosen paths = knows (connected 0 (subnet 9) 1 ∷ []) paths ∷ knows (connected 1 (subnet 12) 0 ∷ []) [] ∷ []

pub r1_begins : candidates plain both_ways 0 (chosen []) ≡ ninth 0 ByNetwork ∷ []
unfolding candidates hops_within
r1_begins = refl

pub r2_begins : candidates plain both_ways 1 (chosen []) ≡ []
unfolding candidates hops_within
r2_begins = refl

pub r2_goes_on : candidates plain both_ways 1 (chosen (ninth 0 ByNetwork ∷ [])) ≡ heard_by_r2 ∷ []
unfolding candidates hops_within
r2_goes_on = refl

pub route_of_r2 : learned_route (alone heard_by_r2) ≡ Some (record { prefix = subnet 9; source = Ebgp; distance = 20; metric = 0; hops = Via (ip 12 1) None ∷ [] })
route_of_r2 = refl
