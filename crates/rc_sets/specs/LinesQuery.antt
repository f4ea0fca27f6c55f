-- The access lists whose idle lines are asked for, and what a table for them may hold.
use Rattle.std.specs.Prelude.{ℕ, List, [], ◌∷◌, map, Option, Some, None}
use Rattle.std.specs.List.{flat_map}
use Rattle.std.specs.Option.{option_map_or}
use Rattle.rc_config.specs.Members.{router_at, router_ids}
use Rattle.rc_config.specs.declared.access_list.AccessList.{AccessList}
use Rattle.rc_config.specs.declared.network.Network.{Network}
use Rattle.rc_config.specs.declared.router_text.RouterText.{RouterText}
use Rattle.rc_trees.specs.Trees.{Tree}
use Rattle.rc_sets.specs.IdleLines.{idle_lines, idle_sets, nodes_of}
use Rattle.rc_sets.specs.declared.idle_line.IdleLine.{IdleLine}

-- the routers asked: one, or all in their order
abbrev pub asked_routers : Network → Option ℕ → List ℕ
asked_routers net None = router_ids net
asked_routers net (Some router) = router ∷ []

-- the access lists of a router with their names, as they are first opened or given a line; none where there is no such router
abbrev pub access_lists_at : Network → ℕ → List (List ℕ × AccessList)
access_lists_at net router = option_map_or (λ (text : RouterText). text.lists.access_lists) (router_at net router) []

-- the access lists of the routers asked, router by router
abbrev pub asked_lists : Network → Option ℕ → List (List ℕ × AccessList)
asked_lists net asked = flat_map (access_lists_at net) (asked_routers net asked)

-- the different nodes that the sets of these lists may make
abbrev pub lists_nodes : List (List ℕ × AccessList) → List Tree
lists_nodes lists = nodes_of (flat_map (λ e. idle_sets e.1.lines) lists)

-- the idle lines of each list
abbrev pub idle_in : List (List ℕ × AccessList) → List (List IdleLine)
idle_in lists = map (λ e. idle_lines e.1.lines) lists
