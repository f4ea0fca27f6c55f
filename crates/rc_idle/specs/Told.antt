-- The lines of access lists that never decide, router by router.
use Rattle.std.specs.Prelude.{◌≡◌, ◌<◌, ℕ, List, [], ◌∷◌, Option}
use Rattle.std.specs.Set.{distinct_count}
use Rattle.rc_config.specs.declared.access_list.AccessList.{AccessList}
use Rattle.rc_config.specs.declared.network.Network.{Network}
use Rattle.rc_report.specs.RouteText.{router_name}
use Rattle.rc_report.specs.declared.idle.ListIdle.{ListIdle}
use Rattle.rc_report.specs.declared.idle.RouterIdle.{RouterIdle}
use Rattle.rc_sets.specs.IdleLines.{AreIdle}
use Rattle.rc_sets.specs.LinesQuery.{access_lists_at, asked_lists, asked_routers, lists_nodes}
use Rattle.rc_trees.specs.Trees.{same_tree}

-- each thing of one list is told by the thing at its place in another
abbrev pub AreTold : {A B : Type 0} → (A → B → Type 0) → List A → List B → Type 0
AreTold IsTold [] [] = Unit {0}
AreTold IsTold (x ∷ xs) (y ∷ ys) = IsTold x y × AreTold IsTold xs ys
AreTold IsTold _ _ = ⊥

-- an access list is told by its name and its lines that never decide
abbrev pub IsListTold : List ℕ × AccessList → ListIdle → Type 0
IsListTold entry told = (told.name ≡ entry.0) × AreIdle [] entry.1.lines told.idle

-- a router is told by its name and its access lists, in the order in which lists are first opened or given a line
abbrev pub IsRouterTold : Network → ℕ → RouterIdle → Type 0
IsRouterTold net r told = (told.router ≡ router_name net r) × AreTold IsListTold (access_lists_at net r) told.lists

-- the lines that never decide in the access lists of the routers that are asked about: of all in byte order of host names, or of one
abbrev pub AreIdleIn : Network → Option ℕ → List RouterIdle → Type 0
AreIdleIn net router told = AreTold (IsRouterTold net) (asked_routers net router) told

-- so many nodes are too few for these access lists: the operations on their lines have more different trees
abbrev pub AreTooFewForLists : ℕ → Network → Option ℕ → Type 0
AreTooFewForLists most net router = most < distinct_count same_tree (lists_nodes (asked_lists net router))
