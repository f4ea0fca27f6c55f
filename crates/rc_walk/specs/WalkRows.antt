-- Worked cases of first walks, each by computation. That the walk that is computed is the first walk is a law (`first_walk_is`).
use Rattle.std.specs.Prelude.{◌≡◌, ◌+◌, ◌%◌, [], ◌∷◌, map, refl}
use Rattle.std.specs.List.{range_with_len}
use Rattle.rc_base.specs.declared.ending.Kind.TheVariants.{Accepted, NoRoute, Delivered}
use Rattle.rc_base.specs.declared.position.Pos.TheVariants.{Own, Entering}
use Rattle.rc_config.specs.IfType.{type_of}
use Rattle.rc_fib.specs.Forwarding.{hops_within}
use Rattle.rc_topology.specs.Ports.{links_of}
use Rattle.rc_moves.specs.declared.walk.Stop.TheVariants.{At, Loop}
use Rattle.rc_moves.specs.Examples.{ip, to, port, with_address, gi0, gi1, network, connected, static, via, plane, pair, ring}
use Rattle.rc_moves.specs.Moves.{DataPlane}
use Rattle.rc_walk.specs.FirstWalks.{first_walk}

-- to a host behind the other router
pub delivered_behind : first_walk pair (to (ip 10 0 1 9)) (Own 0) ≡ record { positions = Own 0 ∷ Entering (port 1 0) ∷ []; stop = At Delivered }
unfolding hops_within links_of type_of
delivered_behind = refl

pub accepted_behind : first_walk pair (to (ip 10 0 1 2)) (Own 0) ≡ record { positions = Own 0 ∷ Entering (port 1 0) ∷ []; stop = At Accepted }
unfolding hops_within links_of type_of
accepted_behind = refl

-- a walk may start where a packet enters
pub from_an_interface : first_walk pair (to (ip 10 0 1 9)) (Entering (port 1 0)) ≡ record { positions = Entering (port 1 0) ∷ []; stop = At Delivered }
unfolding hops_within links_of type_of
from_an_interface = refl

-- the router itself and the router entered by an interface are two positions: the loop is told at the second visit of one
pub default_routes_loop : first_walk pair (to (ip 8 8 8 8)) (Own 0) ≡ record { positions = Own 0 ∷ Entering (port 1 0) ∷ Entering (port 0 0) ∷ []; stop = Loop }
unfolding hops_within links_of type_of
default_routes_loop = refl

-- of two ways the first is taken, though only the other one leads on
abbrev fork : DataPlane
fork =
    plane (network (((gi0, with_address (ip 10 0 1 1) 24) ∷ (gi1, with_address (ip 10 0 2 1) 24) ∷ []) ∷ ((gi0, with_address (ip 10 0 1 2) 24) ∷ []) ∷ ((gi0, with_address (ip 10 0 2 2) 24) ∷ (gi1, with_address (ip 10 0 3 2) 24) ∷ []) ∷ []))
    ((connected 0 (ip 10 0 1 0) 24 0 ∷ connected 0 (ip 10 0 2 0) 24 1 ∷ static (ip 10 0 3 0) 24 (via (ip 10 0 1 2) ∷ via (ip 10 0 2 2) ∷ []) ∷ []) ∷ (connected 1 (ip 10 0 1 0) 24 0 ∷ []) ∷ (connected 2 (ip 10 0 2 0) 24 0 ∷ connected 2 (ip 10 0 3 0) 24 1 ∷ []) ∷ [])

pub first_of_two_ways : first_walk fork (to (ip 10 0 3 9)) (Own 0) ≡ record { positions = Own 0 ∷ Entering (port 1 0) ∷ []; stop = At NoRoute }
unfolding hops_within links_of type_of
first_of_two_ways = refl

pub round_the_ring : first_walk (ring 16) (to (ip 8 8 8 8)) (Own 0) ≡ record { positions = Own 0 ∷ map (λ k. Entering (port ((k + 1) % 16) 1)) (range_with_len 0 16); stop = Loop }
unfolding hops_within links_of type_of
round_the_ring = refl
