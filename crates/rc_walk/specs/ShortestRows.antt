-- Worked cases of shortest walks, each by computation. That the walk that is computed is the shortest is a law (`there_is_a_shortest_walk`).
use Rattle.std.specs.Prelude.{◌≡◌, true, [], ◌∷◌, Some, None, refl}
use Rattle.std.proofs.Common.{inl, inr, lit<}
use Rattle.rc_base.specs.declared.ending.Kind.TheVariants.{Accepted, NullRouted, Exits, Delivered}
use Rattle.rc_base.specs.declared.position.Pos.TheVariants.{Own, Entering}
use Rattle.rc_config.specs.IfType.{type_of}
use Rattle.rc_fib.specs.Forwarding.{hops_within}
use Rattle.rc_route.specs.declared.route.Hop.TheVariants.{Null}
use Rattle.rc_topology.specs.Ports.{links_of}
use Rattle.rc_moves.specs.declared.walk.Stop.TheVariants.{At}
use Rattle.rc_moves.specs.Examples.{ip, to, port, with_address, gi0, gi1, network, connected, static, via, plane, none, taken, pair}
use Rattle.rc_moves.specs.Moves.{DataPlane}
use Rattle.rc_walk.specs.ShortestWalks.{ComeBefore, shortest_walk}

-- an ending at the place itself
pub at_the_place : shortest_walk pair (to (ip 10 0 0 9)) taken (Own 0) ≡ Some (record { positions = Own 0 ∷ []; stop = At Delivered })
unfolding hops_within links_of type_of
at_the_place = refl

pub behind_the_other : shortest_walk pair (to (ip 10 0 1 2)) taken (Own 0) ≡ Some (record { positions = Own 0 ∷ Entering (port 1 0) ∷ []; stop = At Accepted })
unfolding hops_within links_of type_of
behind_the_other = refl

-- the endings that aren't asked for are none
pub only_what_is_asked : shortest_walk pair (to (ip 10 0 1 2)) (record none { delivered = true }) (Own 0) ≡ None
unfolding hops_within links_of type_of
only_what_is_asked = refl

-- a packet that goes round ends nowhere
pub no_walk : shortest_walk pair (to (ip 8 8 8 8)) (record taken { no_route = true; exits = true }) (Own 0) ≡ None
unfolding hops_within links_of type_of
no_walk = refl

-- two ways from the first router, of which each second router delivers: the first choice decides
abbrev fork : DataPlane
fork =
    plane (network (((gi0, with_address (ip 10 0 1 1) 24) ∷ (gi1, with_address (ip 10 0 2 1) 24) ∷ []) ∷ ((gi0, with_address (ip 10 0 1 2) 24) ∷ (gi1, with_address (ip 10 0 3 1) 24) ∷ []) ∷ ((gi0, with_address (ip 10 0 2 2) 24) ∷ (gi1, with_address (ip 10 0 3 2) 24) ∷ []) ∷ []))
    ((connected 0 (ip 10 0 1 0) 24 0 ∷ connected 0 (ip 10 0 2 0) 24 1 ∷ static (ip 10 0 3 0) 24 (via (ip 10 0 1 2) ∷ via (ip 10 0 2 2) ∷ []) ∷ static (ip 10 0 4 0) 24 (via (ip 10 0 1 2) ∷ via (ip 10 0 2 2) ∷ []) ∷ []) ∷ (connected 1 (ip 10 0 1 0) 24 0 ∷ connected 1 (ip 10 0 3 0) 24 1 ∷ static (ip 10 0 4 0) 24 (via (ip 10 0 3 2) ∷ []) ∷ []) ∷ (connected 2 (ip 10 0 2 0) 24 0 ∷ connected 2 (ip 10 0 3 0) 24 1 ∷ static (ip 10 0 4 0) 24 (via (ip 10 0 3 9) ∷ []) ∷ []) ∷ [])

pub the_first_choice : shortest_walk fork (to (ip 10 0 3 9)) taken (Own 0) ≡ Some (record { positions = Own 0 ∷ Entering (port 1 0) ∷ []; stop = At Delivered })
unfolding hops_within links_of type_of
the_first_choice = refl

-- the first choice leads on by one position more: the shorter walk, by the second choice, is the answer
pub the_shorter_one : shortest_walk fork (to (ip 10 0 4 9)) (record none { exits = true }) (Own 0) ≡ Some (record { positions = Own 0 ∷ Entering (port 2 0) ∷ []; stop = At Exits })
unfolding hops_within links_of type_of
the_shorter_one = refl

-- the same two ways behind one router more: a middle choice decides
abbrev behind : DataPlane
behind =
    plane (network (((gi0, with_address (ip 10 0 0 1) 24) ∷ []) ∷ ((gi0, with_address (ip 10 0 0 2) 24) ∷ (gi1, with_address (ip 10 0 1 2) 24) ∷ []) ∷ ((gi0, with_address (ip 10 0 1 3) 24) ∷ (gi1, with_address (ip 10 0 3 3) 24) ∷ []) ∷ ((gi0, with_address (ip 10 0 1 4) 24) ∷ (gi1, with_address (ip 10 0 3 4) 24) ∷ []) ∷ []))
    ((connected 0 (ip 10 0 0 0) 24 0 ∷ static (ip 10 0 3 0) 24 (via (ip 10 0 0 2) ∷ []) ∷ []) ∷ (connected 1 (ip 10 0 0 0) 24 0 ∷ connected 1 (ip 10 0 1 0) 24 1 ∷ static (ip 10 0 3 0) 24 (via (ip 10 0 1 3) ∷ via (ip 10 0 1 4) ∷ []) ∷ []) ∷ (connected 2 (ip 10 0 1 0) 24 0 ∷ connected 2 (ip 10 0 3 0) 24 1 ∷ []) ∷ (connected 3 (ip 10 0 1 0) 24 0 ∷ connected 3 (ip 10 0 3 0) 24 1 ∷ []) ∷ [])

pub a_middle_choice : shortest_walk behind (to (ip 10 0 3 9)) taken (Own 0) ≡ Some (record { positions = Own 0 ∷ Entering (port 1 0) ∷ Entering (port 2 0) ∷ []; stop = At Delivered })
unfolding hops_within links_of type_of
a_middle_choice = refl

-- at one position two hops end the walk: the last choice decides
abbrev edge : DataPlane
edge =
    plane (network (((gi0, with_address (ip 10 0 1 1) 24) ∷ []) ∷ ((gi0, with_address (ip 10 0 1 2) 24) ∷ []) ∷ []))
    ((connected 0 (ip 10 0 1 0) 24 0 ∷ static (ip 10 0 3 0) 24 (via (ip 10 0 1 2) ∷ []) ∷ []) ∷ (connected 1 (ip 10 0 1 0) 24 0 ∷ static (ip 10 0 3 0) 24 (Null ∷ via (ip 10 0 1 9) ∷ []) ∷ []) ∷ [])

pub the_last_choice : shortest_walk edge (to (ip 10 0 3 9)) (record none { null_routed = true; exits = true }) (Own 0) ≡ Some (record { positions = Own 0 ∷ Entering (port 1 0) ∷ []; stop = At NullRouted })
unfolding hops_within links_of type_of
the_last_choice = refl

pub the_other_ending : shortest_walk edge (to (ip 10 0 3 9)) (record none { exits = true }) (Own 0) ≡ Some (record { positions = Own 0 ∷ Entering (port 1 0) ∷ []; stop = At Exits })
unfolding hops_within links_of type_of
the_other_ending = refl

-- fewer choices come before more, whichever they are; of as many, the first that differ decide
pub fewer_choices : ComeBefore (7 ∷ []) (0 ∷ 0 ∷ [])
fewer_choices = inl (lit< tt)

pub the_first_that_differ : ComeBefore (0 ∷ 1 ∷ 9 ∷ []) (0 ∷ 2 ∷ 0 ∷ [])
the_first_that_differ = inr (refl, inr (refl, inl (lit< tt)))
