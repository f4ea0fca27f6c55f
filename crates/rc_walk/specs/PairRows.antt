-- Walks between two routers whose tables hold a default route alone, each by computation.
use Rattle.std.specs.Prelude.{◌≡◌, ℕ, true, false, [], ◌∷◌, Some, None, slice_get, refl}
use Rattle.rc_base.specs.declared.ending.Ends.{Ends}
use Rattle.rc_base.specs.declared.ending.Kind.{Kind}
use Rattle.rc_base.specs.declared.ending.Kind.TheVariants.{DeniedIn, Accepted, NoRoute, NullRouted, DeniedOut, Unreachable, Exits, Delivered}
use Rattle.rc_base.specs.declared.position.Pos.TheVariants.{Own, Entering}
use Rattle.rc_config.specs.IfType.{type_of}
use Rattle.rc_config.specs.Interface.{with_group}
use Rattle.rc_config.specs.declared.interface.Direction.{Direction}
use Rattle.rc_config.specs.declared.interface.Direction.TheVariants.{In, Out}
use Rattle.rc_config.specs.declared.interface.Interface.{Interface}
use Rattle.rc_config.specs.declared.network.Network.{Network}
use Rattle.rc_fib.specs.Forwarding.{hops_within}
use Rattle.rc_filter.specs.Verdict.{matches, same_bits}
use Rattle.rc_route.specs.declared.route.Hop.{Hop}
use Rattle.rc_route.specs.declared.route.Hop.TheVariants.{Null, Dev, Via}
use Rattle.rc_topology.specs.Links.{is_own}
use Rattle.rc_topology.specs.Ports.{links_of}
use Rattle.rc_moves.specs.declared.walk.Move.TheVariants.{Next}
use Rattle.rc_moves.specs.declared.walk.Stop.TheVariants.{At, Loop}
use Rattle.rc_moves.specs.declared.walk.Walk.{Walk}
use Rattle.rc_moves.specs.Examples.{ip, to, port, with_address, gi0, lo0, network, host, with_lists, static, via, plane}
use Rattle.rc_moves.specs.Moves.{DataPlane, moves}
use Rattle.rc_walk.specs.ShortestWalks.{shortest_walk}
use Rattle.rc_walk.specs.FirstWalks.{first_walk}

-- 10.0.0.1 with the loopback 1.1.1.1/24, and on one link with it this interface of the second router, with the loopback 2.2.2.2/24
abbrev net : Interface → Network
net i = network (((gi0, with_address (ip 10 0 0 1) 24) ∷ (lo0, with_address (ip 1 1 1 1) 24) ∷ []) ∷ ((gi0, i) ∷ (lo0, with_address (ip 2 2 2 2) 24) ∷ []) ∷ [])

abbrev second : Interface
second = with_address (ip 10 0 0 2) 24

-- the first router's default route has this hop, and the second one's that
abbrev pair : Hop → Hop → DataPlane
pair there back = plane (net second) ((static 0 0 (there ∷ []) ∷ []) ∷ (static 0 0 (back ∷ []) ∷ []) ∷ [])

-- over the link to the other router
abbrev forth : Hop
forth = Via (ip 10 0 0 2) (Some (port 0 0))

abbrev back : Hop
back = Via (ip 10 0 0 1) (Some (port 1 0))

-- the walk of a packet from the first router, where the second one sends all back
abbrev walk_by : Hop → ℕ → Walk
walk_by hop a = first_walk (pair hop back) (to a) (Own 0)

-- a walk that ends at the first router
abbrev ends_at_once : Kind → Walk
ends_at_once kind = record { positions = Own 0 ∷ []; stop = At kind }

-- ---- each way to end at once

pub own_address : walk_by (Dev (port 0 0)) (ip 1 1 1 1) ≡ ends_at_once Accepted
unfolding hops_within links_of type_of
own_address = refl

-- a gateway that the table doesn't resolve is no way, though it is on the link
pub unresolved : walk_by (via (ip 10 0 0 2)) (ip 8 8 8 8) ≡ ends_at_once NoRoute
unfolding hops_within links_of type_of
unresolved = refl

pub to_null : walk_by Null (ip 8 8 8 8) ≡ ends_at_once NullRouted
unfolding hops_within links_of type_of
to_null = refl

pub onto_the_loopback : walk_by (Dev (port 0 1)) (ip 1 1 1 9) ≡ ends_at_once Unreachable
unfolding hops_within links_of type_of
onto_the_loopback = refl

pub to_nobody : walk_by (Via (ip 10 0 0 9) (Some (port 0 0))) (ip 8 8 8 8) ≡ ends_at_once Exits
unfolding hops_within links_of type_of
to_nobody = refl

pub out_of_the_interface : walk_by (Dev (port 0 0)) (ip 8 8 8 8) ≡ ends_at_once Exits
unfolding hops_within links_of type_of
out_of_the_interface = refl

pub to_a_host : walk_by (Dev (port 0 0)) (ip 10 0 0 9) ≡ ends_at_once Delivered
unfolding hops_within links_of type_of
to_a_host = refl

-- ---- over the link

pub taken_there : walk_by forth (ip 2 2 2 2) ≡ record { positions = Own 0 ∷ Entering (port 1 0) ∷ []; stop = At Accepted }
unfolding hops_within links_of type_of
taken_there = refl

pub forth_and_back : walk_by forth (ip 8 8 8 8) ≡ record { positions = Own 0 ∷ Entering (port 1 0) ∷ Entering (port 0 0) ∷ []; stop = Loop }
unfolding hops_within links_of type_of
forth_and_back = refl

-- one step, and the parts of what forwards: the second router's own address, and no table of a third
abbrev forwarding : DataPlane
forwarding = pair (Dev (port 0 0)) Null

pub one_step : moves forwarding (to (ip 10 0 0 2)) (Own 0) ≡ Next (Entering (port 1 0)) ∷ []
unfolding hops_within links_of type_of
one_step = refl

pub own_there : is_own forwarding.links 1 (ip 10 0 0 2) ≡ true
unfolding links_of type_of
own_there = refl

pub no_third_table : slice_get forwarding.fibs 2 ≡ None
no_third_table = refl

-- ---- the second router's interface lets pass what comes from 10.0.7.1 alone, in a direction

abbrev filtered : Direction → ℕ → Walk
filtered direction n = first_walk (plane (with_lists (net (with_group second host direction))) ((static 0 0 (forth ∷ []) ∷ []) ∷ (static 0 0 (back ∷ []) ∷ []) ∷ [])) (record (to (ip 8 8 8 8)) { src = ip 10 0 7 n }) (Own 0)

pub let_in : filtered In 1 ≡ record { positions = Own 0 ∷ Entering (port 1 0) ∷ Entering (port 0 0) ∷ []; stop = Loop }
unfolding hops_within links_of type_of matches same_bits
let_in = refl

pub not_let_in : filtered In 2 ≡ record { positions = Own 0 ∷ Entering (port 1 0) ∷ []; stop = At DeniedIn }
unfolding hops_within links_of type_of matches same_bits
not_let_in = refl

pub let_out : filtered Out 1 ≡ record { positions = Own 0 ∷ Entering (port 1 0) ∷ Entering (port 0 0) ∷ []; stop = Loop }
unfolding hops_within links_of type_of matches same_bits
let_out = refl

pub not_let_out : filtered Out 2 ≡ record { positions = Own 0 ∷ Entering (port 1 0) ∷ []; stop = At DeniedOut }
unfolding hops_within links_of type_of matches same_bits
not_let_out = refl

-- ---- shortest walks: to a router, or out of the network

abbrev ends : Ends
ends = record { denied_in = false; accepted = false; no_route = false; null_routed = false; denied_out = false; unreachable = false; exits = false; delivered = false }

pub shortest_to_the_other : shortest_walk (pair forth back) (to (ip 2 2 2 2)) (record ends { exits = true; accepted = true }) (Own 0) ≡ Some (record { positions = Own 0 ∷ Entering (port 1 0) ∷ []; stop = At Accepted })
unfolding hops_within links_of type_of
shortest_to_the_other = refl

pub shortest_out : shortest_walk (pair (Via (ip 10 0 0 9) (Some (port 0 0))) back) (to (ip 8 8 8 8)) (record ends { exits = true }) (Own 0) ≡ Some (record { positions = Own 0 ∷ []; stop = At Exits })
unfolding hops_within links_of type_of
shortest_out = refl

-- none where the packet goes round, and none to an ending that isn't asked for
pub none_round : shortest_walk (pair forth back) (to (ip 8 8 8 8)) (record ends { exits = true; accepted = true }) (Own 0) ≡ None
unfolding hops_within links_of type_of
none_round = refl

pub none_as_asked : shortest_walk (pair (Via (ip 10 0 0 9) (Some (port 0 0))) back) (to (ip 8 8 8 8)) (record ends { accepted = true }) (Own 0) ≡ None
unfolding hops_within links_of type_of
none_as_asked = refl
