-- Worked cases of walks that come back, each by computation. That the walk that is computed is the shortest is a law (`there_is_a_shortest_loop`).
use Rattle.std.specs.Prelude.{◌≡◌, ℕ, ◌+◌, List, [], ◌∷◌, map, Option, Some, None, refl}
use Rattle.std.specs.List.{enumerate_from}
use Rattle.rc_base.specs.declared.ending.Kind.TheVariants.{Delivered}
use Rattle.rc_base.specs.declared.position.Pos.{Pos}
use Rattle.rc_base.specs.declared.position.Pos.TheVariants.{Own, Entering}
use Rattle.rc_config.specs.IfType.{type_of}
use Rattle.rc_config.specs.Interface.{with_group}
use Rattle.rc_config.specs.declared.interface.Direction.TheVariants.{In}
use Rattle.rc_fib.specs.Forwarding.{hops_within}
use Rattle.rc_filter.specs.Verdict.{matches, same_bits}
use Rattle.rc_route.specs.declared.route.Hop.{Hop}
use Rattle.rc_route.specs.declared.route.Hop.TheVariants.{Null}
use Rattle.rc_topology.specs.Ports.{links_of}
use Rattle.rc_moves.specs.declared.walk.Stop.TheVariants.{At, Loop}
use Rattle.rc_moves.specs.declared.walk.Walk.{Walk}
use Rattle.rc_moves.specs.Examples.{ip, to, port, with_address, gi0, gi1, gi2, network, host, with_lists, connected, static, via, plane, taken, pair, ring}
use Rattle.rc_walk.specs.Loops.{shortest_loop}
use Rattle.rc_moves.specs.Moves.{DataPlane}
use Rattle.rc_walk.specs.ShortestWalks.{shortest_walk}

-- over these positions, and back onto one of them
abbrev comes_back : List Pos → Option Walk
comes_back positions = Some (record { positions = positions; stop = Loop })

-- ---- two routers with default routes to each other

-- the packet comes back onto the router's interface, not to the place where the router sent it by itself
pub each_to_the_other : shortest_loop pair (to (ip 8 8 8 8)) (Own 0) ≡ comes_back (Own 0 ∷ Entering (port 1 0) ∷ Entering (port 0 0) ∷ [])
unfolding hops_within links_of type_of
each_to_the_other = refl

-- where it enters by that interface it comes back to the place itself
pub back_to_the_place : shortest_loop pair (to (ip 8 8 8 8)) (Entering (port 0 0)) ≡ comes_back (Entering (port 0 0) ∷ Entering (port 1 0) ∷ [])
unfolding hops_within links_of type_of
back_to_the_place = refl

-- a packet to their subnet, or to an address of theirs, ends
pub ends_on_the_subnet : shortest_loop pair (to (ip 10 0 0 9)) (Own 0) ≡ None
unfolding hops_within links_of type_of
ends_on_the_subnet = refl

pub ends_at_the_other : shortest_loop pair (to (ip 10 0 1 2)) (Own 0) ≡ None
unfolding hops_within links_of type_of
ends_at_the_other = refl

-- with a list at the second router's interface that lets in what one host sends, this host's packets go round, and no other
abbrev guarded : DataPlane
guarded =
    plane (with_lists (network (((gi0, with_address (ip 10 0 0 1) 24) ∷ []) ∷ ((gi0, with_group (with_address (ip 10 0 0 2) 24) host In) ∷ []) ∷ [])))
    ((static 0 0 (via (ip 10 0 0 2) ∷ []) ∷ connected 0 (ip 10 0 0 0) 24 0 ∷ []) ∷ (static 0 0 (via (ip 10 0 0 1) ∷ []) ∷ connected 1 (ip 10 0 0 0) 24 0 ∷ []) ∷ [])

pub the_host_goes_round : shortest_loop guarded (record (to (ip 8 8 8 8)) { src = ip 10 0 7 1 }) (Own 0) ≡ comes_back (Own 0 ∷ Entering (port 1 0) ∷ Entering (port 0 0) ∷ [])
unfolding hops_within links_of type_of matches same_bits
the_host_goes_round = refl

pub a_list_cuts_the_loop : shortest_loop guarded (record (to (ip 8 8 8 8)) { src = ip 10 0 7 2 }) (Own 0) ≡ None
unfolding hops_within links_of type_of matches same_bits
a_list_cuts_the_loop = refl

-- ---- a walk that ends and one that comes back, of one header

abbrev beside : DataPlane
beside =
    plane (network (((gi0, with_address (ip 10 0 1 1) 24) ∷ (gi1, with_address (ip 10 0 2 1) 24) ∷ (gi2, with_address (ip 10 0 3 1) 24) ∷ []) ∷ ((gi0, with_address (ip 10 0 1 2) 24) ∷ (gi1, with_address (ip 10 0 2 2) 24) ∷ []) ∷ ((gi0, with_address (ip 10 0 3 3) 24) ∷ (gi1, with_address (ip 9 9 9 1) 24) ∷ []) ∷ []))
    ((static (ip 9 9 9 0) 24 (via (ip 10 0 1 2) ∷ via (ip 10 0 3 3) ∷ []) ∷ connected 0 (ip 10 0 1 0) 24 0 ∷ connected 0 (ip 10 0 2 0) 24 1 ∷ connected 0 (ip 10 0 3 0) 24 2 ∷ []) ∷ (static (ip 9 9 9 0) 24 (via (ip 10 0 2 1) ∷ []) ∷ connected 1 (ip 10 0 1 0) 24 0 ∷ connected 1 (ip 10 0 2 0) 24 1 ∷ []) ∷ (connected 2 (ip 9 9 9 0) 24 1 ∷ connected 2 (ip 10 0 3 0) 24 0 ∷ []) ∷ [])

pub one_comes_back : shortest_loop beside (to (ip 9 9 9 9)) (Own 0) ≡ comes_back (Own 0 ∷ Entering (port 1 0) ∷ Entering (port 0 1) ∷ [])
unfolding hops_within links_of type_of
one_comes_back = refl

pub one_is_delivered : shortest_walk beside (to (ip 9 9 9 9)) taken (Own 0) ≡ Some (record { positions = Own 0 ∷ Entering (port 2 0) ∷ []; stop = At Delivered })
unfolding hops_within links_of type_of
one_is_delivered = refl

-- ---- routers on one subnet, the first with address 10.0.0.1, each with these hops for 9.0.0.0/8

abbrev on_one_subnet : List (List Hop) → DataPlane
on_one_subnet ways =
    plane (network (map (λ (e : ℕ × List Hop). (gi0, with_address (ip 10 0 0 (e.0 + 1)) 24) ∷ []) (enumerate_from 0 ways)))
    (map (λ (e : ℕ × List Hop). static (ip 9 0 0 0) 8 e.1 ∷ connected e.0 (ip 10 0 0 0) 24 0 ∷ []) (enumerate_from 0 ways))

abbrev by : ℕ → Hop
by n = via (ip 10 0 0 n)

-- The place isn't on the loop of the three others, which it enters at two of them. A search that looks for a move onto a position on
-- the way to the one at hand, and goes to each once, misses it: it comes to the third by the place, not by the second.
pub round_the_others : shortest_loop (on_one_subnet ((by 2 ∷ by 4 ∷ []) ∷ (by 3 ∷ []) ∷ (by 4 ∷ []) ∷ (by 2 ∷ []) ∷ [])) (to (ip 9 1 1 1)) (Own 0) ≡ comes_back (Own 0 ∷ Entering (port 1 0) ∷ Entering (port 2 0) ∷ Entering (port 3 0) ∷ [])
unfolding hops_within links_of type_of
round_the_others = refl

-- of two loops of one length the first choice that differs decides, though a later one is less in the other
pub the_first_choice : shortest_loop (on_one_subnet ((by 2 ∷ by 3 ∷ []) ∷ (Null ∷ by 4 ∷ []) ∷ (by 5 ∷ []) ∷ (by 2 ∷ []) ∷ (by 3 ∷ []) ∷ [])) (to (ip 9 1 1 1)) (Own 0) ≡ comes_back (Own 0 ∷ Entering (port 1 0) ∷ Entering (port 3 0) ∷ [])
unfolding hops_within links_of type_of
the_first_choice = refl

-- and the returning one comes last: by that alone the other loop would be the first
pub returning_last : shortest_loop (on_one_subnet ((by 2 ∷ []) ∷ (by 3 ∷ by 4 ∷ []) ∷ (Null ∷ by 2 ∷ []) ∷ (by 2 ∷ []) ∷ [])) (to (ip 9 1 1 1)) (Own 0) ≡ comes_back (Own 0 ∷ Entering (port 1 0) ∷ Entering (port 2 0) ∷ [])
unfolding hops_within links_of type_of
returning_last = refl

-- fewer choices come before more: by its second hop the packet comes back to the place at once
pub the_shorter_one : shortest_loop (on_one_subnet ((by 2 ∷ by 3 ∷ []) ∷ (by 4 ∷ []) ∷ (by 1 ∷ []) ∷ (by 2 ∷ []) ∷ [])) (to (ip 9 1 1 1)) (Entering (port 0 0)) ≡ comes_back (Entering (port 0 0) ∷ Entering (port 2 0) ∷ [])
unfolding hops_within links_of type_of
the_shorter_one = refl

-- a chain of hops without a return ends
pub no_loop : shortest_loop (on_one_subnet ((by 2 ∷ by 3 ∷ []) ∷ (by 3 ∷ []) ∷ (by 9 ∷ []) ∷ [])) (to (ip 9 1 1 1)) (Own 0) ≡ None
unfolding hops_within links_of type_of
no_loop = refl

-- ---- all routers of a ring

pub round_the_ring : shortest_loop (ring 4) (to (ip 8 8 8 8)) (Own 0) ≡ comes_back (Own 0 ∷ Entering (port 1 1) ∷ Entering (port 2 1) ∷ Entering (port 3 1) ∷ Entering (port 0 1) ∷ [])
unfolding hops_within links_of type_of
round_the_ring = refl
