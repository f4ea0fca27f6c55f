-- Worked cases of sets and their parts, each by computation.
use Rattle.std.specs.Prelude.{◌≡◌, ℕ, ◌+◌, true, false, [], ◌∷◌, codes, length, filter, refl}
use Rattle.rc_base.specs.declared.ending.Ends.{Ends}
use Rattle.rc_base.specs.declared.position.Pos.TheVariants.{Own, Entering}
use Rattle.rc_base.specs.Prefix.{prefix_at}
use Rattle.rc_base.specs.declared.ending.Kind.TheVariants.{DeniedIn}
use Rattle.rc_config.specs.AccessList.{any_address, standard_line}
use Rattle.rc_config.specs.Cuts.{uncut}
use Rattle.rc_config.specs.Interface.{with_group}
use Rattle.rc_config.specs.Update.{empty as empty_file}
use Rattle.rc_config.specs.declared.interface.Direction.TheVariants.{In}
use Rattle.rc_config.specs.Lists.{no_lists}
use Rattle.rc_config.specs.declared.access_list.Action.TheVariants.{Permit, Deny}
use Rattle.rc_config.specs.declared.access_list.AccessListKind.TheVariants.{Extended}
use Rattle.rc_config.specs.declared.access_list.AccessListLine.{AccessListLine}
use Rattle.rc_config.specs.declared.access_list.PortTest.TheVariants.{Equal}
use Rattle.rc_config.specs.declared.access_list.ProtocolTest.TheVariants as protocol
use Rattle.rc_config.specs.IfType.{type_of}
use Rattle.rc_topology.specs.Ports.{links_of}
use Rattle.rc_fib.specs.Forwarding.{hops_within}
use Rattle.rc_moves.specs.Examples.{ip, network, with_address, gi0, lo0, plane, connected, port, static, via}
use Rattle.rc_moves.specs.Moves.{DataPlane}
use Rattle.rc_trees.specs.Trees.{Tree, never, node, is_node, always}
use Rattle.rc_base.specs.Header.{bit}
use Rattle.rc_trees.specs.Combine.{and, or, minus}
use Rattle.rc_trees.specs.Parts.{parts, subtrees}
use Rattle.rc_trees.specs.Recipes.{tree, nodes}
use Rattle.rc_trees.specs.Fields.{masked, under, chain, host}
use Rattle.rc_sets.specs.AccessLists.{line_set}
use Rattle.rc_sets.specs.Regions.{region, hop_set}
use Rattle.rc_router_sets.specs.Sent.{let_in, let_out, to_router, to_interface, to_subnets, taken, forwarded, sent, leaving, untaken}
use Rattle.rc_router_sets.specs.Edges.{edge}
use Rattle.rc_router_sets.specs.Endings.{end}
use Rattle.rc_router_sets.specs.Query.{reached, reaching, query_nodes}

abbrev ends : Ends
ends = record { denied_in = false; accepted = true; no_route = false; null_routed = false; denied_out = false; unreachable = false; exits = false; delivered = true }

-- one router with 10.0.0.1/24
abbrev base : DataPlane
base = plane (network (((gi0, with_address (ip 10 0 0 1) 24) ∷ []) ∷ [])) ((connected 0 (ip 10 0 0 0) 24 0 ∷ []) ∷ [])

-- the answer's tree is the chain of 10.0.0.0/24
pub the_subnet : tree (reaching base (Entering (port 0 0)) ends) ≡ tree (chain (prefix_at (ip 10 0 0 0) 24))
unfolding links_of type_of hops_within bit and or minus parts nodes masked under line_set region hop_set let_in let_out to_router to_interface to_subnets taken forwarded sent leaving untaken edge end reached reaching query_nodes
the_subnet = refl

pub tree_size : length (filter is_node (subtrees (tree (reaching base (Entering (port 0 0)) ends)))) ≡ 24
unfolding links_of type_of hops_within bit and or minus parts nodes masked under line_set region hop_set let_in let_out to_router to_interface to_subnets taken forwarded sent leaving untaken edge end reached reaching query_nodes
tree_size = refl

pub parts_made : length (query_nodes base (Entering (port 0 0)) ends) ≡ 112
unfolding links_of type_of hops_within bit and or minus parts nodes masked under line_set region hop_set let_in let_out to_router to_interface to_subnets taken forwarded sent leaving untaken edge end reached reaching query_nodes
parts_made = refl

-- with a loopback of 1.1.1.1/24: the rest of its prefix is unreachable
abbrev with_loopback : DataPlane
with_loopback =
    plane (network (((gi0, with_address (ip 10 0 0 1) 24) ∷ (lo0, with_address (ip 1 1 1 1) 24) ∷ []) ∷ [])) ((connected 0 (ip 1 1 1 0) 24 1 ∷ connected 0 (ip 10 0 0 0) 24 0 ∷ []) ∷ [])

pub own_address_alone : tree (reaching with_loopback (Own 0) ends) ≡ or (tree (host (ip 1 1 1 1))) (tree (chain (prefix_at (ip 10 0 0 0) 24)))
unfolding links_of type_of hops_within bit and or minus parts nodes masked under line_set region hop_set let_in let_out to_router to_interface to_subnets taken forwarded sent leaving untaken edge end reached reaching query_nodes
own_address_alone = refl

-- two routers on one subnet, with default routes to each other
abbrev two : DataPlane
two =
    plane (network (((gi0, with_address (ip 10 0 0 1) 24) ∷ []) ∷ ((gi0, with_address (ip 10 0 0 2) 24) ∷ []) ∷ []))
    ((static 0 0 (via (ip 10 0 0 2) ∷ []) ∷ connected 0 (ip 10 0 0 0) 24 0 ∷ []) ∷ (static 0 0 (via (ip 10 0 0 1) ∷ []) ∷ connected 1 (ip 10 0 0 0) 24 0 ∷ []) ∷ [])

pub the_shared_subnet : tree (reaching two (Own 0) ends) ≡ tree (chain (prefix_at (ip 10 0 0 0) 24))
unfolding links_of type_of hops_within bit and or minus parts nodes masked under line_set region hop_set let_in let_out to_router to_interface to_subnets taken forwarded sent leaving untaken edge end reached reaching query_nodes
the_shared_subnet = refl

-- what goes from the first to the second: its own address, and all outside the subnet by the default route
pub to_the_second : tree (edge two (Own 0) (Entering (port 1 0))) ≡ or (tree (host (ip 10 0 0 2))) (minus always (tree (chain (prefix_at (ip 10 0 0 0) 24))))
unfolding links_of type_of hops_within bit and or minus parts nodes masked under line_set region hop_set let_in let_out to_router to_interface to_subnets taken forwarded sent leaving untaken edge end reached reaching query_nodes
to_the_second = refl

-- ---- an access list: telnet is denied, all else may pass

-- how many ways lead to true
abbrev pub cubes : Tree → ℕ
cubes never = 0
cubes always = 1
cubes (node v low high) = cubes low + cubes high

abbrev everything : AccessListLine
everything = standard_line 20 Permit any_address

abbrev telnet : AccessListLine
telnet = record everything { sequence = 10; action = Deny; protocol = protocol.Is 6; destination_port = Equal (23 ∷ []) }

-- one router with 10.0.0.1/24, whose list 101 is asked of what enters
abbrev guarded : DataPlane
guarded =
    plane (uncut ((codes "R1", record empty_file { interfaces = (gi0, with_group (with_address (ip 10 0 0 1) 24) (codes "101") In) ∷ []; lists = record no_lists { access_lists = (codes "101", record { kind = Extended; lines = telnet ∷ everything ∷ [] }) ∷ [] } }) ∷ []))
    ((connected 0 (ip 10 0 0 0) 24 0 ∷ []) ∷ [])

pub cubes_of_the_list : cubes (tree (reaching guarded (Entering (port 0 0)) ends)) ≡ 24
unfolding links_of type_of hops_within bit and or minus parts nodes masked under line_set region hop_set let_in let_out to_router to_interface to_subnets taken forwarded sent leaving untaken edge end reached reaching query_nodes
cubes_of_the_list = refl

pub denied_at_the_door : cubes (tree (end guarded (Entering (port 0 0)) DeniedIn)) ≡ 1
unfolding links_of type_of hops_within bit and or minus parts nodes masked under line_set region hop_set let_in let_out to_router to_interface to_subnets taken forwarded sent leaving untaken edge end reached reaching query_nodes
denied_at_the_door = refl
