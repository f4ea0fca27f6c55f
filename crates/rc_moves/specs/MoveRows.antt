-- Worked cases of moves, each by computation.
use Rattle.std.specs.Prelude.{◌≡◌, ℕ, List, [], ◌∷◌, refl}
use Rattle.rc_base.specs.declared.ending.Kind.TheVariants.{Accepted, NoRoute, NullRouted, Unreachable, Exits, Delivered}
use Rattle.rc_base.specs.declared.position.Pos.TheVariants.{Own, Entering}
use Rattle.rc_config.specs.IfType.{type_of}
use Rattle.rc_config.specs.declared.interface.Interface.{Interface}
use Rattle.rc_route.specs.declared.route.Hop.{Hop}
use Rattle.rc_route.specs.declared.route.Hop.TheVariants.{Null, Dev}
use Rattle.rc_route.specs.declared.route.Route.{Route}
use Rattle.rc_fib.specs.Forwarding.{hops_within}
use Rattle.rc_topology.specs.Ports.{links_of}
use Rattle.rc_moves.specs.declared.walk.Move.TheVariants.{Next, End}
use Rattle.rc_moves.specs.Examples.{ip, to, port, with_address, shut, gi0, gi1, se0, lo0, network, connected, static, via, plane}
use Rattle.rc_moves.specs.Moves.{DataPlane, moves}

-- ---- a router alone

abbrev alone_interfaces : List (List ℕ × Interface)
alone_interfaces = (gi0, with_address (ip 10 0 0 1) 24) ∷ (lo0, with_address (ip 1 1 1 1) 24) ∷ (se0, with_address (ip 10 0 9 1) 24) ∷ []

abbrev alone_table : List Route
alone_table =
    connected 0 (ip 1 1 1 0) 24 1 ∷ connected 0 (ip 10 0 0 0) 24 0 ∷ connected 0 (ip 10 0 9 0) 24 2
    ∷ static (ip 172 16 0 0) 16 (via (ip 10 0 0 2) ∷ []) ∷ static (ip 172 17 0 0) 16 (Dev (port 0 0) ∷ []) ∷ static (ip 172 18 0 0) 16 (Dev (port 0 2) ∷ [])
    ∷ static (ip 192 168 0 0) 16 (Null ∷ []) ∷ []

abbrev alone : DataPlane
alone = plane (network (alone_interfaces ∷ [])) (alone_table ∷ [])

pub no_route : moves alone (to (ip 8 8 8 8)) (Own 0) ≡ End NoRoute ∷ []
unfolding hops_within links_of type_of
no_route = refl

pub null_routed : moves alone (to (ip 192 168 1 1)) (Own 0) ≡ End NullRouted ∷ []
unfolding hops_within links_of type_of
null_routed = refl

-- a loopback leads to nobody but the router itself
pub unreachable : moves alone (to (ip 1 1 1 9)) (Own 0) ≡ End Unreachable ∷ []
unfolding hops_within links_of type_of
unreachable = refl

pub accepted_at_home : moves alone (to (ip 1 1 1 1)) (Own 0) ≡ End Accepted ∷ []
unfolding hops_within links_of type_of
accepted_at_home = refl

-- by whichever interface a packet enters, it is for the router where that has the address on any
pub accepted_on_entering : moves alone (to (ip 1 1 1 1)) (Entering (port 0 0)) ≡ End Accepted ∷ []
unfolding hops_within links_of type_of
accepted_on_entering = refl

-- to a gateway that nobody has
pub exits_by_gateway : moves alone (to (ip 172 16 0 1)) (Own 0) ≡ End Exits ∷ []
unfolding hops_within links_of type_of
exits_by_gateway = refl

-- out of an Ethernet, and the destination lies in no prefix of it
pub exits_by_interface : moves alone (to (ip 172 17 0 1)) (Own 0) ≡ End Exits ∷ []
unfolding hops_within links_of type_of
exits_by_interface = refl

-- out of a serial line with nobody at the other end
pub exits_by_serial : moves alone (to (ip 172 18 0 1)) (Own 0) ≡ End Exits ∷ []
unfolding hops_within links_of type_of
exits_by_serial = refl

-- to a host of the subnet
pub delivered : moves alone (to (ip 10 0 0 9)) (Own 0) ≡ End Delivered ∷ []
unfolding hops_within links_of type_of
delivered = refl

-- ---- routers on one link

-- two of them have the address 10.0.0.2
abbrev shared : DataPlane
shared =
    plane (network (((gi0, with_address (ip 10 0 0 1) 24) ∷ []) ∷ ((gi0, with_address (ip 10 0 0 2) 24) ∷ []) ∷ ((gi0, with_address (ip 10 0 7 3) 24) ∷ (gi1, with_address (ip 10 0 0 2) 24) ∷ []) ∷ []))
    ((connected 0 (ip 10 0 0 0) 24 0 ∷ static (ip 172 16 0 0) 16 (via (ip 10 0 0 2) ∷ []) ∷ []) ∷ [] ∷ [] ∷ [])

-- those who have the destination take it, and it isn't delivered to a host
pub takers_in_order : moves shared (to (ip 10 0 0 2)) (Own 0) ≡ Next (Entering (port 1 0)) ∷ Next (Entering (port 2 1)) ∷ []
unfolding hops_within links_of type_of
takers_in_order = refl

pub takers_of_gateway : moves shared (to (ip 172 16 0 1)) (Own 0) ≡ Next (Entering (port 1 0)) ∷ Next (Entering (port 2 1)) ∷ []
unfolding hops_within links_of type_of
takers_of_gateway = refl

-- the interfaces of one router share no link
abbrev twice : DataPlane
twice =
    plane (network (((gi0, with_address (ip 10 0 0 1) 24) ∷ (gi1, with_address (ip 10 0 0 2) 24) ∷ []) ∷ []))
    ((connected 0 (ip 10 0 0 0) 24 0 ∷ static (ip 172 16 0 0) 16 (via (ip 10 0 0 2) ∷ []) ∷ []) ∷ [])

pub no_taker_at_home : moves twice (to (ip 172 16 0 1)) (Own 0) ≡ End Exits ∷ []
unfolding hops_within links_of type_of
no_taker_at_home = refl

-- ---- several hops

-- all hops in order, and the moves of each one together
abbrev several : List Hop → DataPlane
several hops =
    plane (network (((gi0, with_address (ip 10 0 1 1) 24) ∷ (gi1, with_address (ip 10 0 2 1) 24) ∷ []) ∷ ((gi0, with_address (ip 10 0 1 2) 24) ∷ []) ∷ ((gi0, with_address (ip 10 0 2 2) 24) ∷ []) ∷ []))
    ((connected 0 (ip 10 0 1 0) 24 0 ∷ connected 0 (ip 10 0 2 0) 24 1 ∷ static (ip 172 16 0 0) 16 hops ∷ []) ∷ [] ∷ [] ∷ [])

pub first_hop_first : moves (several (via (ip 10 0 1 2) ∷ via (ip 10 0 2 2) ∷ [])) (to (ip 172 16 0 1)) (Own 0) ≡ Next (Entering (port 1 0)) ∷ Next (Entering (port 2 0)) ∷ []
unfolding hops_within links_of type_of
first_hop_first = refl

pub endings_and_moves : moves (several (Null ∷ Dev (port 0 1) ∷ via (ip 10 0 1 2) ∷ [])) (to (ip 172 16 0 1)) (Own 0) ≡ End NullRouted ∷ End Exits ∷ Next (Entering (port 1 0)) ∷ []
unfolding hops_within links_of type_of
endings_and_moves = refl

-- ---- serial lines

abbrev serial : DataPlane
serial =
    plane (network (((se0, with_address (ip 10 0 1 1) 24) ∷ []) ∷ ((gi0, with_address (ip 10 0 7 2) 24) ∷ (se0, with_address (ip 10 0 1 2) 24) ∷ []) ∷ ((se0, with_address (ip 10 0 1 3) 24) ∷ []) ∷ []))
    ((static 0 0 (Dev (port 0 0) ∷ []) ∷ connected 0 (ip 10 0 1 0) 24 0 ∷ []) ∷ [] ∷ [] ∷ [])

-- a packet to elsewhere goes on to all that share the line
pub on_by_serial : moves serial (to (ip 8 8 8 8)) (Own 0) ≡ Next (Entering (port 1 1)) ∷ Next (Entering (port 2 0)) ∷ []
unfolding hops_within links_of type_of
on_by_serial = refl

-- one to an address of the line goes to those who have it, and else to a host
pub taken_by_serial : moves serial (to (ip 10 0 1 3)) (Own 0) ≡ Next (Entering (port 2 0)) ∷ []
unfolding hops_within links_of type_of
taken_by_serial = refl

pub delivered_by_serial : moves serial (to (ip 10 0 1 9)) (Own 0) ≡ End Delivered ∷ []
unfolding hops_within links_of type_of
delivered_by_serial = refl

-- ---- at an interface that is down

abbrev down : DataPlane
down =
    plane (network (((gi0, shut (with_address (ip 10 0 0 1) 24)) ∷ (gi1, with_address (ip 10 0 1 1) 24) ∷ []) ∷ []))
    ((connected 0 (ip 10 0 1 0) 24 1 ∷ []) ∷ [])

-- the router forwards
pub forwards_from_down : moves down (to (ip 10 0 1 9)) (Entering (port 0 0)) ≡ End Delivered ∷ []
unfolding hops_within links_of type_of
forwards_from_down = refl

-- and the address of the interface isn't its own
pub not_accepted_at_down : moves down (to (ip 10 0 0 1)) (Entering (port 0 0)) ≡ End NoRoute ∷ []
unfolding hops_within links_of type_of
not_accepted_at_down = refl
