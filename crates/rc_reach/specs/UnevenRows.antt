-- Worked cases of headers that go uneven ways, each by computation.
use Rattle.std.specs.Prelude.{◌≡◌, [], ◌∷◌, refl}
use Rattle.rc_base.specs.declared.position.Pos.TheVariants.{Own}
use Rattle.rc_config.specs.IfType.{type_of}
use Rattle.rc_topology.specs.Ports.{links_of}
use Rattle.rc_fib.specs.Forwarding.{hops_within}
use Rattle.rc_moves.specs.Examples.{ip, network, with_address, gi0, lo0, plane, connected, static, via}
use Rattle.rc_moves.specs.Moves.{DataPlane}
use Rattle.rc_trees.specs.Trees.{never}
use Rattle.rc_base.specs.Header.{bit}
use Rattle.rc_trees.specs.Combine.{and, or, minus}
use Rattle.rc_trees.specs.Parts.{parts}
use Rattle.rc_trees.specs.Recipes.{nodes, tree}
use Rattle.rc_trees.specs.Fields.{masked, under, host}
use Rattle.rc_sets.specs.AccessLists.{line_set}
use Rattle.rc_sets.specs.Regions.{region, hop_set}
use Rattle.rc_router_sets.specs.Sent.{let_in, let_out, to_router, to_interface, to_subnets, taken, forwarded, sent, leaving, untaken}
use Rattle.rc_router_sets.specs.Edges.{edge}
use Rattle.rc_router_sets.specs.Endings.{end}
use Rattle.rc_router_sets.specs.Query.{reached, reaching}
use Rattle.rc_reach.specs.LoopRows.{two}
use Rattle.rc_reach.specs.Uneven.{uneven}

-- a route by two gateways, of which one is a router that has the address and the other nobody
abbrev split : DataPlane
split =
    plane (network (((gi0, with_address (ip 10 0 0 1) 24) ∷ []) ∷ ((gi0, with_address (ip 10 0 0 2) 24) ∷ (lo0, with_address (ip 9 1 1 1) 32) ∷ []) ∷ []))
    ((static (ip 9 0 0 0) 8 (via (ip 10 0 0 2) ∷ via (ip 10 0 0 3) ∷ []) ∷ connected 0 (ip 10 0 0 0) 24 0 ∷ []) ∷ (connected 1 (ip 9 1 1 1) 32 1 ∷ connected 1 (ip 10 0 0 0) 24 0 ∷ []) ∷ [])

pub accepted_or_exits : tree (uneven split (Own 0)) ≡ tree (host (ip 9 1 1 1))
unfolding links_of type_of hops_within bit and or minus parts nodes masked under line_set region hop_set let_in let_out to_router to_interface to_subnets taken forwarded sent leaving untaken edge end reached reaching uneven
accepted_or_exits = refl

-- a walk without an ending is no failure
pub a_loop_is_no_failure : tree (uneven two (Own 0)) ≡ never
unfolding links_of type_of hops_within bit and or minus parts nodes masked under line_set region hop_set let_in let_out to_router to_interface to_subnets taken forwarded sent leaving untaken edge end reached reaching uneven
a_loop_is_no_failure = refl
