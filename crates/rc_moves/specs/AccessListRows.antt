-- Worked cases of access lists at interfaces, each by computation.
use Rattle.std.specs.Prelude.{◌≡◌, ℕ, [], ◌∷◌, codes, refl}
use Rattle.rc_base.specs.declared.ending.Kind.TheVariants.{DeniedIn, Accepted, NoRoute, NullRouted, DeniedOut, Unreachable, Exits, Delivered}
use Rattle.rc_base.specs.declared.header.Header.{Header}
use Rattle.rc_base.specs.declared.position.Pos.TheVariants.{Own, Entering}
use Rattle.rc_config.specs.IfType.{type_of}
use Rattle.rc_config.specs.Interface.{with_group}
use Rattle.rc_config.specs.declared.interface.Direction.TheVariants.{In, Out}
use Rattle.rc_config.specs.declared.interface.Interface.{Interface}
use Rattle.rc_fib.specs.Forwarding.{hops_within}
use Rattle.rc_filter.specs.Verdict.{matches, same_bits}
use Rattle.rc_route.specs.declared.route.Hop.TheVariants.{Null, Dev}
use Rattle.rc_topology.specs.Ports.{links_of}
use Rattle.rc_moves.specs.declared.walk.Move.TheVariants.{End}
use Rattle.rc_moves.specs.Examples.{ip, to, port, with_address, shut, gi0, gi1, lo0, network, deny, host, empty, with_lists, connected, static, plane}
use Rattle.rc_moves.specs.Moves.{DataPlane, moves}

-- ---- a router alone

abbrev first : Interface
first = with_address (ip 10 0 0 1) 24

abbrev second : Interface
second = with_address (ip 10 0 1 1) 24

abbrev third : Interface
third = with_address (ip 1 1 1 1) 24

-- with these interfaces Gi0/0, Gi0/1 and Lo0. To 172.16.0.0/16 it sends by each of the first two, and to nowhere.
abbrev alone : Interface → Interface → Interface → DataPlane
alone i j k =
    plane (with_lists (network (((gi0, i) ∷ (gi1, j) ∷ (lo0, k) ∷ []) ∷ [])))
    ((connected 0 (ip 1 1 1 0) 24 2 ∷ connected 0 (ip 10 0 0 0) 24 0 ∷ connected 0 (ip 10 0 1 0) 24 1 ∷ static (ip 172 16 0 0) 16 (Dev (port 0 0) ∷ Dev (port 0 1) ∷ Null ∷ []) ∷ []) ∷ [])

-- a packet of 10.0.7.n
abbrev from : ℕ → ℕ → Header
from n a = record (to a) { src = ip 10 0 7 n }

-- ---- inbound lists

abbrev closed_in : DataPlane
closed_in = alone (with_group first deny In) second third

-- an inbound list that denies is the end at the interface by which the packet would enter
pub denied_in : moves closed_in (to (ip 10 0 1 9)) (Entering (port 0 0)) ≡ End DeniedIn ∷ []
unfolding hops_within links_of type_of matches same_bits
denied_in = refl

-- also for an address of the router itself, of that interface or another
pub denied_in_before_own : moves closed_in (to (ip 10 0 0 1)) (Entering (port 0 0)) ≡ End DeniedIn ∷ []
unfolding hops_within links_of type_of matches same_bits
denied_in_before_own = refl

pub denied_in_before_loopback : moves closed_in (to (ip 1 1 1 1)) (Entering (port 0 0)) ≡ End DeniedIn ∷ []
unfolding hops_within links_of type_of matches same_bits
denied_in_before_loopback = refl

-- and where there is no route
pub denied_in_before_no_route : moves closed_in (to (ip 8 8 8 8)) (Entering (port 0 0)) ≡ End DeniedIn ∷ []
unfolding hops_within links_of type_of matches same_bits
denied_in_before_no_route = refl

-- each interface has its own list: by the other one the packet enters
pub let_in_by_another : moves closed_in (to (ip 10 0 0 1)) (Entering (port 0 1)) ≡ End Accepted ∷ []
unfolding hops_within links_of type_of matches same_bits
let_in_by_another = refl

-- an inbound list isn't asked for what goes out by its interface
pub inbound_is_not_outbound : moves closed_in (to (ip 10 0 0 9)) (Entering (port 0 1)) ≡ End Delivered ∷ []
unfolding hops_within links_of type_of matches same_bits
inbound_is_not_outbound = refl

-- nor for what the router sends by itself
pub own_packets_enter_nowhere : moves closed_in (to (ip 10 0 0 9)) (Own 0) ≡ End Delivered ∷ []
unfolding hops_within links_of type_of matches same_bits
own_packets_enter_nowhere = refl

-- nor for what it sends to itself
pub own_packets_to_itself : moves closed_in (to (ip 10 0 0 1)) (Own 0) ≡ End Accepted ∷ []
unfolding hops_within links_of type_of matches same_bits
own_packets_to_itself = refl

-- it is asked at an interface that is down too
pub denied_in_while_down : moves (alone (shut (with_group first deny In)) second third) (to (ip 10 0 1 9)) (Entering (port 0 0)) ≡ End DeniedIn ∷ []
unfolding hops_within links_of type_of matches same_bits
denied_in_while_down = refl

-- the list decides by the packet: 10.0.7.1 is let in, 10.0.7.2 isn't
pub let_in_by_source : moves (alone (with_group first host In) second third) (from 1 (ip 10 0 1 9)) (Entering (port 0 0)) ≡ End Delivered ∷ []
unfolding hops_within links_of type_of matches same_bits
let_in_by_source = refl

pub denied_in_by_source : moves (alone (with_group first host In) second third) (from 2 (ip 10 0 1 9)) (Entering (port 0 0)) ≡ End DeniedIn ∷ []
unfolding hops_within links_of type_of matches same_bits
denied_in_by_source = refl

-- a list without lines lets everything in, and so does one that isn't there
pub let_in_by_empty : moves (alone (with_group first empty In) second third) (to (ip 10 0 1 9)) (Entering (port 0 0)) ≡ End Delivered ∷ []
unfolding hops_within links_of type_of matches same_bits
let_in_by_empty = refl

pub let_in_by_missing : moves (alone (with_group first (codes "GONE") In) second third) (to (ip 10 0 1 9)) (Entering (port 0 0)) ≡ End Delivered ∷ []
unfolding hops_within links_of type_of matches same_bits
let_in_by_missing = refl

-- ---- outbound lists

abbrev closed_out : DataPlane
closed_out = alone first (with_group second deny Out) third

-- an outbound list that denies stands in the way out by its interface
pub denied_out : moves closed_out (to (ip 10 0 1 9)) (Entering (port 0 0)) ≡ End DeniedOut ∷ []
unfolding hops_within links_of type_of matches same_bits
denied_out = refl

-- also back out by the interface by which the packet entered
pub denied_out_where_it_entered : moves closed_out (to (ip 10 0 1 9)) (Entering (port 0 1)) ≡ End DeniedOut ∷ []
unfolding hops_within links_of type_of matches same_bits
denied_out_where_it_entered = refl

-- it isn't asked for what enters by its interface and goes out by another
pub outbound_is_not_inbound : moves closed_out (to (ip 10 0 0 9)) (Entering (port 0 1)) ≡ End Delivered ∷ []
unfolding hops_within links_of type_of matches same_bits
outbound_is_not_inbound = refl

-- nor for what the router sends by itself
pub own_packets_go_out : moves closed_out (to (ip 10 0 1 9)) (Own 0) ≡ End Delivered ∷ []
unfolding hops_within links_of type_of matches same_bits
own_packets_go_out = refl

-- nor for what is addressed to the router
pub accepted_before_denied_out : moves closed_out (to (ip 10 0 1 1)) (Entering (port 0 0)) ≡ End Accepted ∷ []
unfolding hops_within links_of type_of matches same_bits
accepted_before_denied_out = refl

-- nor where there is no route
pub no_route_before_denied_out : moves closed_out (to (ip 8 8 8 8)) (Entering (port 0 0)) ≡ End NoRoute ∷ []
unfolding hops_within links_of type_of matches same_bits
no_route_before_denied_out = refl

-- of several hops each is asked for by itself, all in order, and a packet to nowhere goes out by no interface
pub each_hop_by_itself : moves closed_out (to (ip 172 16 0 1)) (Entering (port 0 0)) ≡ End Exits ∷ End DeniedOut ∷ End NullRouted ∷ []
unfolding hops_within links_of type_of matches same_bits
each_hop_by_itself = refl

pub first_hop_denied : moves (alone (with_group first deny Out) second third) (to (ip 172 16 0 1)) (Entering (port 0 0)) ≡ End DeniedOut ∷ End Exits ∷ End NullRouted ∷ []
unfolding hops_within links_of type_of matches same_bits
first_hop_denied = refl

pub all_hops_denied : moves (alone (with_group first deny Out) (with_group second deny Out) (with_group third deny Out)) (to (ip 172 16 0 1)) (Entering (port 0 0)) ≡ End DeniedOut ∷ End DeniedOut ∷ End NullRouted ∷ []
unfolding hops_within links_of type_of matches same_bits
all_hops_denied = refl

pub no_hop_asked_for_itself : moves (alone (with_group first deny Out) (with_group second deny Out) (with_group third deny Out)) (to (ip 172 16 0 1)) (Own 0) ≡ End Exits ∷ End Exits ∷ End NullRouted ∷ []
unfolding hops_within links_of type_of matches same_bits
no_hop_asked_for_itself = refl

-- a loopback's list is asked before it is found that it leads to nobody
pub denied_out_before_unreachable : moves (alone first second (with_group third deny Out)) (to (ip 1 1 1 9)) (Entering (port 0 0)) ≡ End DeniedOut ∷ []
unfolding hops_within links_of type_of matches same_bits
denied_out_before_unreachable = refl

pub unreachable_for_itself : moves (alone first second (with_group third deny Out)) (to (ip 1 1 1 9)) (Own 0) ≡ End Unreachable ∷ []
unfolding hops_within links_of type_of matches same_bits
unreachable_for_itself = refl

pub unreachable_past_an_empty_list : moves (alone first second (with_group third empty Out)) (to (ip 1 1 1 9)) (Entering (port 0 0)) ≡ End Unreachable ∷ []
unfolding hops_within links_of type_of matches same_bits
unreachable_past_an_empty_list = refl

-- the list decides by the packet
pub let_out_by_source : moves (alone first (with_group second host Out) third) (from 1 (ip 10 0 1 9)) (Entering (port 0 0)) ≡ End Delivered ∷ []
unfolding hops_within links_of type_of matches same_bits
let_out_by_source = refl

pub denied_out_by_source : moves (alone first (with_group second host Out) third) (from 2 (ip 10 0 1 9)) (Entering (port 0 0)) ≡ End DeniedOut ∷ []
unfolding hops_within links_of type_of matches same_bits
denied_out_by_source = refl

pub let_out_by_missing : moves (alone first (with_group second (codes "GONE") Out) third) (to (ip 10 0 1 9)) (Entering (port 0 0)) ≡ End Delivered ∷ []
unfolding hops_within links_of type_of matches same_bits
let_out_by_missing = refl

-- both lists stand in one way: the inbound one is asked first
pub denied_in_before_denied_out : moves (alone (with_group first deny In) (with_group second deny Out) third) (to (ip 10 0 1 9)) (Entering (port 0 0)) ≡ End DeniedIn ∷ []
unfolding hops_within links_of type_of matches same_bits
denied_in_before_denied_out = refl
