-- Worked cases of first walks past access lists, between two routers each with a default route to the other, each by computation.
use Rattle.std.specs.Prelude.{◌≡◌, [], ◌∷◌, refl}
use Rattle.rc_base.specs.declared.ending.Kind.TheVariants.{DeniedIn, DeniedOut, Delivered}
use Rattle.rc_base.specs.declared.position.Pos.TheVariants.{Own, Entering}
use Rattle.rc_config.specs.IfType.{type_of}
use Rattle.rc_config.specs.Interface.{with_group}
use Rattle.rc_config.specs.declared.interface.Direction.TheVariants.{In, Out}
use Rattle.rc_config.specs.declared.interface.Interface.{Interface}
use Rattle.rc_fib.specs.Forwarding.{hops_within}
use Rattle.rc_filter.specs.Verdict.{matches, same_bits}
use Rattle.rc_moves.specs.Examples.{ip, to, port, with_address, gi0, gi1, network, deny, host, with_lists, connected, static, via, plane}
use Rattle.rc_moves.specs.Moves.{DataPlane, moves}
use Rattle.rc_moves.specs.declared.walk.Move.TheVariants.{Next}
use Rattle.rc_moves.specs.declared.walk.Stop.TheVariants.{At}
use Rattle.rc_topology.specs.Ports.{links_of}
use Rattle.rc_walk.specs.FirstWalks.{first_walk}

-- RA has these interfaces 10.0.1.1/24 and 10.0.0.1/24, RB this one 10.0.0.2/24 and 10.0.2.2/24
abbrev pair : Interface → Interface → Interface → DataPlane
pair i j k =
    plane (with_lists (network (((gi0, i) ∷ (gi1, j) ∷ []) ∷ ((gi0, k) ∷ (gi1, with_address (ip 10 0 2 2) 24) ∷ []) ∷ [])))
    ((static 0 0 (via (ip 10 0 0 2) ∷ []) ∷ connected 0 (ip 10 0 0 0) 24 1 ∷ connected 0 (ip 10 0 1 0) 24 0 ∷ []) ∷ (static 0 0 (via (ip 10 0 0 1) ∷ []) ∷ connected 1 (ip 10 0 0 0) 24 0 ∷ connected 1 (ip 10 0 2 0) 24 1 ∷ []) ∷ [])

abbrev outer : Interface
outer = with_address (ip 10 0 1 1) 24

abbrev inner : Interface
inner = with_address (ip 10 0 0 1) 24

abbrev peer : Interface
peer = with_address (ip 10 0 0 2) 24

-- an inbound list is asked at each router that a packet enters
pub denied_in_at_the_next : first_walk (pair outer inner (with_group peer deny In)) (to (ip 10 0 2 9)) (Own 0) ≡ record { positions = Own 0 ∷ Entering (port 1 0) ∷ []; stop = At DeniedIn }
unfolding hops_within links_of type_of matches same_bits
denied_in_at_the_next = refl

-- the move onto it is made all the same
pub moved_onto_a_closed_one : moves (pair outer inner (with_group peer deny In)) (to (ip 10 0 2 9)) (Own 0) ≡ Next (Entering (port 1 0)) ∷ []
unfolding hops_within links_of type_of matches same_bits
moved_onto_a_closed_one = refl

-- an outbound list is asked of what the router forwards
pub forwarded_is_denied_out : first_walk (pair outer (with_group inner deny Out) peer) (to (ip 10 0 2 9)) (Entering (port 0 0)) ≡ record { positions = Entering (port 0 0) ∷ []; stop = At DeniedOut }
unfolding hops_within links_of type_of matches same_bits
forwarded_is_denied_out = refl

-- and not of what it sends by itself
pub sent_is_not_denied_out : first_walk (pair outer (with_group inner deny Out) peer) (to (ip 10 0 2 9)) (Own 0) ≡ record { positions = Own 0 ∷ Entering (port 1 0) ∷ []; stop = At Delivered }
unfolding hops_within links_of type_of matches same_bits
sent_is_not_denied_out = refl

-- what another router has sent by itself is forwarded like all else
pub denied_out_at_the_next : first_walk (pair outer inner (with_group peer deny Out)) (to (ip 8 8 8 8)) (Own 0) ≡ record { positions = Own 0 ∷ Entering (port 1 0) ∷ []; stop = At DeniedOut }
unfolding hops_within links_of type_of matches same_bits
denied_out_at_the_next = refl

-- lists that let the packet pass leave the walk as it is
pub let_through : first_walk (pair (with_group outer host In) (with_group inner host Out) (with_group peer host In)) (record (to (ip 10 0 2 9)) { src = ip 10 0 7 1 }) (Entering (port 0 0)) ≡ record { positions = Entering (port 0 0) ∷ Entering (port 1 0) ∷ []; stop = At Delivered }
unfolding hops_within links_of type_of matches same_bits
let_through = refl
