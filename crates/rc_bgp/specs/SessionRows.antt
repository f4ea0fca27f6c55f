-- Worked cases of identifiers and sessions, each by computation.
use Rattle.std.specs.Prelude.{◌≡◌, ℕ, true, false, List, [], ◌∷◌, Some, codes, refl}
use Rattle.std.specs.List.{fold}
use Rattle.rc_base.specs.Prefix.{prefix_at}
use Rattle.rc_config.specs.Bgp.{fresh, no_lines, settled, with_line, with_own}
use Rattle.rc_config.specs.IfType.{type_of}
use Rattle.rc_config.specs.declared.bgp.BgpLine.{BgpLine}
use Rattle.rc_config.specs.declared.bgp.BgpLine.TheVariants.{Setting, Active, GroupDeclared, MemberOf, InactiveByDefault}
use Rattle.rc_config.specs.declared.bgp.BgpProcess.{BgpProcess}
use Rattle.rc_config.specs.declared.bgp.Neighbor.{Neighbor}
use Rattle.rc_config.specs.declared.bgp.NeighborSetting.TheVariants.{RemoteAs, UpdateSource, EbgpMultihop, Shutdown}
use Rattle.rc_config.specs.declared.peering.Peer.TheVariants.{Address, Group}
use Rattle.rc_config.specs.declared.interface.Interface.{Interface}
use Rattle.rc_config.specs.declared.network.Network.{Network}
use Rattle.rc_config.specs.declared.router_text.RouterText.{RouterText}
use Rattle.rc_fib.specs.Forwarding.{hops_within}
use Rattle.rc_route.specs.declared.route.Route.{Route}
use Rattle.rc_route.specs.declared.state.RouterState.{RouterState}
use Rattle.rc_topology.specs.Ports.{links_of}
use Rattle.rc_bgp_session.specs.Nets.{ip, subnet, gigabit, gigabit_1, loopback, on, peer, process, router, two, three, external, internal, connected, static, knows}
use Rattle.rc_bgp.specs.Sessions.{configured_sessions, is_up, sessions}
use Rattle.rc_bgp.specs.Speakers.{identifier, router_addresses, speakers}
use Rattle.rc_bgp_session.specs.declared.session.Session.{Session}

-- ---- identifiers

abbrev id_of : BgpProcess → List (List ℕ × Interface) → ℕ
id_of p interfaces = identifier p (router_addresses 0 interfaces)

abbrev plain : BgpProcess
plain = no_lines 65001

-- a loopback's address goes before a higher one elsewhere
pub loopback_first : id_of plain ((gigabit, on 12 1 24) ∷ (loopback, on 1 1 32) ∷ []) ≡ ip 1 1
unfolding type_of
loopback_first = refl

pub highest_loopback : id_of plain ((loopback, on 1 1 32) ∷ (codes "Loopback1", on 2 2 32) ∷ (gigabit, on 12 1 24) ∷ []) ≡ ip 2 2
unfolding type_of
highest_loopback = refl

pub highest_address : id_of plain ((gigabit, on 12 1 24) ∷ (gigabit_1, on 7 9 24) ∷ []) ≡ ip 12 1
unfolding type_of
highest_address = refl

-- addresses of an interface that is down don't count
pub down_does_not_count : id_of plain ((gigabit, on 12 1 24) ∷ (loopback, record (on 1 1 32) { shutdown = true }) ∷ []) ≡ ip 12 1
unfolding type_of
down_does_not_count = refl

pub configured_first : id_of (record plain { router_id = Some 7 }) ((loopback, on 1 1 32) ∷ []) ≡ 7
unfolding type_of
configured_first = refl

pub no_address : id_of plain [] ≡ 0
no_address = refl

-- ---- two routers on 10.0.12.0/24, in AS 65001 and 65002

abbrev first : Neighbor → RouterText
first n = router ((gigabit, on 12 1 24) ∷ []) (process 65001 (n ∷ []))

abbrev second : Neighbor → RouterText
second n = router ((gigabit, on 12 2 24) ∷ []) (process 65002 (n ∷ []))

abbrev to_second : Neighbor
to_second = peer (ip 12 2) 65002

abbrev to_first : Neighbor
to_first = peer (ip 12 1) 65001

abbrev Gives : Network → List (List Session) → Type 0
Gives net all = configured_sessions net (links_of net) ≡ all

pub both_name_each_other : Gives (two (first to_second) (second to_first)) ((external 1 (ip 12 2) 0 (ip 12 1) ∷ []) ∷ (external 0 (ip 12 1) 1 (ip 12 2) ∷ []) ∷ [])
unfolding configured_sessions speakers links_of type_of
both_name_each_other = refl

pub one_side_alone : Gives (two (first to_second) (router ((gigabit, on 12 2 24) ∷ []) (process 65002 []))) ([] ∷ [] ∷ [])
unfolding configured_sessions speakers links_of type_of
one_side_alone = refl

pub another_as : Gives (two (first (peer (ip 12 2) 65003)) (second to_first)) ([] ∷ [] ∷ [])
unfolding configured_sessions speakers links_of type_of
another_as = refl

pub another_as_there : Gives (two (first to_second) (second (peer (ip 12 1) 65003))) ([] ∷ [] ∷ [])
unfolding configured_sessions speakers links_of type_of
another_as_there = refl

pub another_address : Gives (two (first to_second) (second (peer (ip 12 9) 65001))) ([] ∷ [] ∷ [])
unfolding configured_sessions speakers links_of type_of
another_address = refl

pub no_remote_as : Gives (two (first (fresh (ip 12 2))) (second to_first)) ([] ∷ [] ∷ [])
unfolding configured_sessions speakers links_of type_of
no_remote_as = refl

pub shut_down : Gives (two (first (with_own to_second Shutdown)) (second to_first)) ([] ∷ [] ∷ [])
unfolding configured_sessions speakers links_of type_of
shut_down = refl

pub shut_down_there : Gives (two (first to_second) (second (with_own to_first Shutdown))) ([] ∷ [] ∷ [])
unfolding configured_sessions speakers links_of type_of
shut_down_there = refl

-- a session is there where the neighbour is active on both sides, and neither where one of them isn't nor where both aren't
abbrev inactive : Neighbor → Neighbor
inactive n = record n { is_active = false }

pub inactive_here : Gives (two (first (inactive to_second)) (second to_first)) ([] ∷ [] ∷ [])
unfolding configured_sessions speakers links_of type_of
inactive_here = refl

pub inactive_there : Gives (two (first to_second) (second (inactive to_first))) ([] ∷ [] ∷ [])
unfolding configured_sessions speakers links_of type_of
inactive_there = refl

pub inactive_on_both : Gives (two (first (inactive to_second)) (second (inactive to_first))) ([] ∷ [] ∷ [])
unfolding configured_sessions speakers links_of type_of
inactive_on_both = refl

-- ---- the second router's neighbour is a member of the group UP, whose lines stand for its own

abbrev up : List ℕ
up = codes "UP"

-- `neighbor UP peer-group`, `neighbor UP remote-as 65001`, `neighbor 10.0.12.1 peer-group UP`, and then these lines
abbrev in_group : List BgpLine → RouterText
in_group lines =
    router ((gigabit, on 12 2 24) ∷ []) (settled (fold with_line (no_lines 65002) (GroupDeclared up ∷ Setting (Group up) (RemoteAs 65001) ∷ MemberOf (ip 12 1) up ∷ lines)))

abbrev HasSession : List BgpLine → Type 0
HasSession lines = Gives (two (first to_second) (in_group lines)) ((external 1 (ip 12 2) 0 (ip 12 1) ∷ []) ∷ (external 0 (ip 12 1) 1 (ip 12 2) ∷ []) ∷ [])

abbrev HasNone : List BgpLine → Type 0
HasNone lines = Gives (two (first to_second) (in_group lines)) ([] ∷ [] ∷ [])

pub as_of_the_group : HasSession []
unfolding configured_sessions speakers links_of type_of
as_of_the_group = refl

pub own_as_first : HasNone (Setting (Address (ip 12 1)) (RemoteAs 65003) ∷ [])
unfolding configured_sessions speakers links_of type_of
own_as_first = refl

pub group_shut_down : HasNone (Setting (Group up) Shutdown ∷ [])
unfolding configured_sessions speakers links_of type_of
group_shut_down = refl

pub not_active_by_default : HasNone (InactiveByDefault ∷ [])
unfolding configured_sessions speakers links_of type_of
not_active_by_default = refl

pub activated : HasSession (InactiveByDefault ∷ Active (Address (ip 12 1)) true ∷ [])
unfolding configured_sessions speakers links_of type_of
activated = refl

pub activated_by_its_group : HasSession (InactiveByDefault ∷ Active (Group up) true ∷ [])
unfolding configured_sessions speakers links_of type_of
activated_by_its_group = refl

pub own_line_first : HasNone (Active (Address (ip 12 1)) false ∷ Active (Group up) true ∷ [])
unfolding configured_sessions speakers links_of type_of
own_line_first = refl

pub last_line_counts : HasSession (Active (Address (ip 12 1)) false ∷ Active (Address (ip 12 1)) true ∷ [])
unfolding configured_sessions speakers links_of type_of
last_line_counts = refl

-- one AS: the session is internal
pub one_as : Gives (two (first (peer (ip 12 2) 65001)) (router ((gigabit, on 12 2 24) ∷ []) (process 65001 (to_first ∷ [])))) ((internal 1 (ip 12 2) 0 (ip 12 1) ∷ []) ∷ (internal 0 (ip 12 1) 1 (ip 12 2) ∷ []) ∷ [])
unfolding configured_sessions speakers links_of type_of
one_as = refl

-- an address that stands on two routers makes two sessions, by sender
pub address_on_two : Gives (three (first to_second) (second to_first) (second to_first))
    ((external 1 (ip 12 2) 0 (ip 12 1) ∷ external 2 (ip 12 2) 0 (ip 12 1) ∷ []) ∷ (external 0 (ip 12 1) 1 (ip 12 2) ∷ []) ∷ (external 0 (ip 12 1) 2 (ip 12 2) ∷ []) ∷ [])
unfolding configured_sessions speakers links_of type_of
address_on_two = refl

-- the first own address whose prefix holds the neighbour is the local one, so the wider prefix that stands first wins
pub first_that_holds : Gives (two (router ((gigabit, on 0 1 8) ∷ (gigabit_1, on 12 1 24) ∷ []) (process 65001 (to_second ∷ []))) (second to_first)) ([] ∷ [] ∷ [])
unfolding configured_sessions speakers links_of type_of
first_that_holds = refl

-- two prefixes of other lengths are no shared subnet
pub other_lengths : Gives (two (first to_second) (router ((gigabit, on 12 2 16) ∷ []) (process 65002 (to_first ∷ [])))) ([] ∷ [] ∷ [])
unfolding configured_sessions speakers links_of type_of
other_lengths = refl

-- ---- off a shared subnet: loopbacks 10.0.1.1 and 10.0.2.2, named by `update-source`

abbrev by_loopback : ℕ → ℕ → Neighbor
by_loopback address asn = with_own (peer address asn) (UpdateSource loopback)

abbrev far_first : Neighbor → RouterText
far_first n = router ((gigabit, on 12 1 24) ∷ (loopback, on 1 1 32) ∷ []) (process 65001 (n ∷ []))

abbrev far_second : ℕ → Neighbor → RouterText
far_second asn n = router ((gigabit, on 12 2 24) ∷ (loopback, on 2 2 32) ∷ []) (process asn (n ∷ []))

abbrev far : Session → Session
far s = record s { is_shared = false }

abbrev multihop : Neighbor → Neighbor
multihop n = with_own n EbgpMultihop

pub multihop_on_both : Gives (two (far_first (multihop (by_loopback (ip 2 2) 65002))) (far_second 65002 (multihop (by_loopback (ip 1 1) 65001))))
    ((far (external 1 (ip 2 2) 0 (ip 1 1)) ∷ []) ∷ (far (external 0 (ip 1 1) 1 (ip 2 2)) ∷ []) ∷ [])
unfolding configured_sessions speakers links_of type_of
multihop_on_both = refl

pub multihop_here_alone : Gives (two (far_first (multihop (by_loopback (ip 2 2) 65002))) (far_second 65002 (by_loopback (ip 1 1) 65001))) ([] ∷ [] ∷ [])
unfolding configured_sessions speakers links_of type_of
multihop_here_alone = refl

pub multihop_there_alone : Gives (two (far_first (by_loopback (ip 2 2) 65002)) (far_second 65002 (multihop (by_loopback (ip 1 1) 65001)))) ([] ∷ [] ∷ [])
unfolding configured_sessions speakers links_of type_of
multihop_there_alone = refl

-- an internal session needs none
pub internal_without_multihop : Gives (two (far_first (by_loopback (ip 2 2) 65001)) (far_second 65001 (by_loopback (ip 1 1) 65001)))
    ((far (internal 1 (ip 2 2) 0 (ip 1 1)) ∷ []) ∷ (far (internal 0 (ip 1 1) 1 (ip 2 2)) ∷ []) ∷ [])
unfolding configured_sessions speakers links_of type_of
internal_without_multihop = refl

-- `update-source` of an interface that is down, or that isn't declared, gives no session
pub source_is_down : Gives (two (router ((loopback, record (on 1 1 32) { shutdown = true }) ∷ []) (process 65001 (by_loopback (ip 2 2) 65001 ∷ []))) (far_second 65001 (by_loopback (ip 1 1) 65001))) ([] ∷ [] ∷ [])
unfolding configured_sessions speakers links_of type_of
source_is_down = refl

pub source_is_not_there : Gives (two (router ((gigabit, on 12 1 24) ∷ []) (process 65001 (by_loopback (ip 2 2) 65001 ∷ []))) (far_second 65001 (by_loopback (ip 1 1) 65001))) ([] ∷ [] ∷ [])
unfolding configured_sessions speakers links_of type_of
source_is_not_there = refl

-- two loopbacks of one prefix are no shared subnet
pub loopbacks_share_nothing : Gives (two (router ((loopback, on 1 1 24) ∷ []) (process 65001 (peer (ip 1 2) 65001 ∷ []))) (router ((loopback, on 1 2 24) ∷ []) (process 65001 (peer (ip 1 1) 65001 ∷ []))))
    ((far (internal 1 (ip 1 2) 0 (ip 1 1)) ∷ []) ∷ (far (internal 0 (ip 1 1) 1 (ip 1 2)) ∷ []) ∷ [])
unfolding configured_sessions speakers links_of type_of
loopbacks_share_nothing = refl

-- ---- which are up in a state: router 0 has 10.0.1.1, router 1 has 10.0.2.2

abbrev far_session : Session
far_session = far (internal 1 (ip 2 2) 0 (ip 1 1))

abbrev state : List Route → List Route → List RouterState
state a b = knows (connected 0 (subnet 12) 0 ∷ a) [] ∷ knows (connected 1 (subnet 12) 0 ∷ b) [] ∷ []

pub each_resolves : is_up (state (static (prefix_at (ip 2 2) 32) (ip 12 2) ∷ []) (static (prefix_at (ip 1 1) 32) (ip 12 1) ∷ [])) far_session ≡ true
unfolding hops_within
each_resolves = refl

pub one_resolves : is_up (state (static (prefix_at (ip 2 2) 32) (ip 12 2) ∷ []) []) far_session ≡ false
unfolding hops_within
one_resolves = refl

pub other_resolves : is_up (state [] (static (prefix_at (ip 1 1) 32) (ip 12 1) ∷ [])) far_session ≡ false
unfolding hops_within
other_resolves = refl

-- a default route suffices
pub by_default : is_up (state (static (prefix_at 0 0) (ip 12 2) ∷ []) (static (prefix_at 0 0) (ip 12 1) ∷ [])) far_session ≡ true
unfolding hops_within
by_default = refl

-- on a shared subnet nothing is asked
pub always_on_a_subnet : is_up [] (external 1 (ip 12 2) 0 (ip 12 1)) ≡ true
always_on_a_subnet = refl

-- ---- the sessions of a state: two routers of one AS that speak from their loopbacks, and three in a chain

abbrev far_pair : Network
far_pair = two (far_first (by_loopback (ip 2 2) 65001)) (far_second 65001 (by_loopback (ip 1 1) 65001))

abbrev AreUp : Network → List RouterState → List Session → Type 0
AreUp net state up = sessions net (links_of net) state ≡ up

pub up_where_each_resolves : AreUp far_pair (state (static (prefix_at (ip 2 2) 32) (ip 12 2) ∷ []) (static (prefix_at (ip 1 1) 32) (ip 12 1) ∷ []))
    (far (internal 1 (ip 2 2) 0 (ip 1 1)) ∷ far (internal 0 (ip 1 1) 1 (ip 2 2)) ∷ [])
unfolding sessions configured_sessions speakers links_of type_of hops_within
up_where_each_resolves = refl

pub down_where_one_resolves : AreUp far_pair (state (static (prefix_at (ip 2 2) 32) (ip 12 2) ∷ []) []) []
unfolding sessions configured_sessions speakers links_of type_of hops_within
down_where_one_resolves = refl

-- by receiver, then sender; a subnet's are up from the first state on
pub by_receiver_then_sender : AreUp (three (first to_second) (router ((gigabit, on 12 2 24) ∷ (gigabit_1, on 23 2 24) ∷ []) (process 65002 (to_first ∷ peer (ip 23 3) 65003 ∷ []))) (router ((gigabit, on 23 3 24) ∷ []) (process 65003 (peer (ip 23 2) 65002 ∷ [])))) []
    (record (external 1 (ip 12 2) 0 (ip 12 1)) { sender_id = ip 23 2 } ∷ external 0 (ip 12 1) 1 (ip 12 2) ∷ external 2 (ip 23 3) 1 (ip 23 2) ∷ external 1 (ip 23 2) 2 (ip 23 3) ∷ [])
unfolding sessions configured_sessions speakers links_of type_of hops_within
by_receiver_then_sender = refl
