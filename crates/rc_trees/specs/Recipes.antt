-- Sets of headers as they are made of others: which trees are given, and by which operations they are put together.
use Rattle.std.specs.Prelude.{Bool, List, ◌++◌, filter}
use Rattle.std.specs.List.{fold}
use Rattle.rc_base.specs.Lists.{first_seen}
use Rattle.rc_base.specs.declared.header.Header.{Header}
use Rattle.rc_trees.specs.Trees.{Tree, never, same_tree, holds, is_node, IsAmong, IsReduced}
use Rattle.rc_trees.specs.Combine as trees
use Rattle.rc_trees.specs.Parts.{subtrees}

-- how a set is made of others: a tree that is given; the headers of both, of either, of the first alone
pub data Recipe : Type 0 where
  given : Tree → Recipe
  and : Recipe → Recipe → Recipe
  or : Recipe → Recipe → Recipe
  minus : Recipe → Recipe → Recipe

-- the tree that a recipe makes
abbrev pub tree : Recipe → Tree
tree (given t) = t
tree (and r s) = trees.and (tree r) (tree s)
tree (or r s) = trees.or (tree r) (tree s)
tree (minus r s) = trees.minus (tree r) (tree s)

-- a header is in the set that a recipe makes
abbrev pub has : Recipe → Header → Bool
has r h = holds (tree r) h

-- what it is made of is reduced
abbrev pub IsOfReduced : Recipe → Type 0
IsOfReduced (given t) = IsReduced t
IsOfReduced (and r s) = IsOfReduced r × IsOfReduced s
IsOfReduced (or r s) = IsOfReduced r × IsOfReduced s
IsOfReduced (minus r s) = IsOfReduced r × IsOfReduced s

-- the trees that a recipe makes on the way: the subtrees of what is given, and those of the result of each operation
-- (`parts_are_subtrees`)
abbrev pub parts : Recipe → List Tree
parts (given t) = subtrees t
parts (and r s) = parts r ++ parts s ++ subtrees (tree (and r s))
parts (or r s) = parts r ++ parts s ++ subtrees (tree (or r s))
parts (minus r s) = parts r ++ parts s ++ subtrees (tree (minus r s))

-- the different nodes among some trees
unfoldable pub nodes : Recipe → List Tree
nodes r = first_seen same_tree (filter is_node (parts r))

-- each part of the second is a part of the first
abbrev pub Uses : Recipe → Recipe → Type 0
Uses whole piece = (t : Tree) → IsAmong (parts piece) t → IsAmong (parts whole) t

-- ---- many sets

-- the headers of one of the sets that some things give, joined in their order
abbrev pub union_of : {A : Type 0} → (A → Recipe) → List A → Recipe
union_of set xs = fold (λ r x. or r (set x)) (given never) xs

-- the headers of a set that are in none of those that some things give, taken away in their order
abbrev pub without : {A : Type 0} → (A → Recipe) → Recipe → List A → Recipe
without set r xs = fold (λ s x. minus s (set x)) r xs
