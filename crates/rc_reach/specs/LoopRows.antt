-- Worked cases of headers that loop, each by computation.
use Rattle.std.specs.Prelude.{◌≡◌, ℕ, ◌+◌, [], ◌∷◌, refl}
use Rattle.rc_base.specs.declared.position.Pos.TheVariants.{Own}
use Rattle.rc_base.specs.Prefix.{prefix_at}
use Rattle.rc_config.specs.IfType.{type_of}
use Rattle.rc_topology.specs.Ports.{links_of}
use Rattle.rc_fib.specs.Forwarding.{hops_within}
use Rattle.rc_moves.specs.Examples.{ip, network, with_address, gi0, plane, connected, static, via}
use Rattle.rc_moves.specs.Moves.{DataPlane}
use Rattle.rc_trees.specs.Trees.{Tree, never, node, always}
use Rattle.rc_base.specs.Header.{bit}
use Rattle.rc_trees.specs.Combine.{and, or, minus}
use Rattle.rc_trees.specs.Parts.{parts}
use Rattle.rc_trees.specs.Recipes.{nodes, tree}
use Rattle.rc_trees.specs.Fields.{masked, under, chain}
use Rattle.rc_sets.specs.AccessLists.{line_set}
use Rattle.rc_sets.specs.Regions.{region, hop_set}
use Rattle.rc_router_sets.specs.Sent.{let_in, let_out, to_router, to_interface, to_subnets, taken, forwarded, sent, leaving, untaken}
use Rattle.rc_router_sets.specs.Edges.{edge}
use Rattle.rc_reach.specs.Loops.{going_on, looping}

-- two routers on one subnet, with default routes to each other
abbrev pub two : DataPlane
two =
    plane (network (((gi0, with_address (ip 10 0 0 1) 24) ∷ []) ∷ ((gi0, with_address (ip 10 0 0 2) 24) ∷ []) ∷ []))
    ((static 0 0 (via (ip 10 0 0 2) ∷ []) ∷ connected 0 (ip 10 0 0 0) 24 0 ∷ []) ∷ (static 0 0 (via (ip 10 0 0 1) ∷ []) ∷ connected 1 (ip 10 0 0 0) 24 0 ∷ []) ∷ [])

-- all outside the subnet goes round and round
pub all_outside : tree (looping two (Own 0)) ≡ minus always (tree (chain (prefix_at (ip 10 0 0 0) 24)))
unfolding links_of type_of hops_within bit and or minus parts nodes masked under line_set region hop_set let_in let_out to_router to_interface to_subnets taken forwarded sent leaving untaken edge going_on looping
all_outside = refl

-- how many ways lead to true
abbrev pub cubes : Tree → ℕ
cubes never = 0
cubes always = 1
cubes (node v low high) = cubes low + cubes high

pub cubes_outside : cubes (tree (looping two (Own 0))) ≡ 24
unfolding links_of type_of hops_within bit and or minus parts nodes masked under line_set region hop_set let_in let_out to_router to_interface to_subnets taken forwarded sent leaving untaken edge going_on looping
cubes_outside = refl

-- with a default route at one of them alone nothing does
abbrev pub one_way : DataPlane
one_way =
    plane (network (((gi0, with_address (ip 10 0 0 1) 24) ∷ []) ∷ ((gi0, with_address (ip 10 0 0 2) 24) ∷ []) ∷ []))
    ((static 0 0 (via (ip 10 0 0 2) ∷ []) ∷ connected 0 (ip 10 0 0 0) 24 0 ∷ []) ∷ (connected 1 (ip 10 0 0 0) 24 0 ∷ []) ∷ [])

pub nothing_round : tree (looping one_way (Own 0)) ≡ never
unfolding links_of type_of hops_within bit and or minus parts nodes masked under line_set region hop_set let_in let_out to_router to_interface to_subnets taken forwarded sent leaving untaken edge going_on looping
nothing_round = refl
