-- Which trees a list has.
use Rattle.std.proofs.Common.{refl, inl, inr, List, [], ◌∷◌, ◌++◌}
use Rattle.rc_base.specs.Prefix.{Cidr}
use Rattle.rc_trees.specs.Fields.{chain, chain_nodes}
use Rattle.rc_trees.specs.Trees.{Tree, never, always, node, IsAmong, HasNodes, HasNodesOf}
use Rattle.rc_trees.specs.Parts.{subtrees}
use Rattle.rc_trees.specs.Recipes.{Recipe, tree, nodes, parts}
use Rattle.rc_trees.proofs.PartLaws.{in-left, in-right, subtrees_of_recipe, nodes_of_parts}

-- a list that has more has as much of a tree
pub has-more : (xs ys : List Tree) → ((u : Tree) → IsAmong xs u → IsAmong ys u) → (t : Tree) → HasNodesOf xs t → HasNodesOf ys t
has-more xs ys f never has = tt
has-more xs ys f always has = tt
has-more xs ys f (node v l h) has = (f (node v l h) has.0, has-more xs ys f l has.1, has-more xs ys f h has.2)

module _ (may : List Tree) where
  -- the nodes of a tree are those among its subtrees
  pub has_nodes_of : (t : Tree) → HasNodes may (subtrees t) → HasNodesOf may t
  has_nodes_of never has = tt
  has_nodes_of always has = tt
  has_nodes_of (node v l h) has = (
    has (node v l h) (inl refl) refl,
    has_nodes_of l (λ x there is. has x (inr (in-left x (subtrees l) (subtrees h) there)) is),
    has_nodes_of h (λ x there is. has x (inr (in-right x (subtrees l) (subtrees h) there)) is),
  )

  -- where the nodes among a recipe's parts are there, so are those of the tree that it makes
  pub has_recipe : (r : Recipe) → HasNodes may (parts r) → HasNodesOf may (tree r)
  has_recipe r has = has_nodes_of (tree r) (λ x there is. has x (subtrees_of_recipe r x there) is)

-- a recipe's nodes have those of its tree
pub nodes_have_tree : (r : Recipe) → HasNodesOf (nodes r) (tree r)
nodes_have_tree r = has_recipe (nodes r) r (nodes_of_parts r)

-- the nodes of the chains of some prefixes have those of each one's chain
pub chains_have : (ps : List Cidr) (p : Cidr) (qs : List Cidr) → HasNodesOf (chain_nodes (ps ++ p ∷ qs)) (tree (chain p))
chains_have [] p qs = has-more (nodes (chain p)) (chain_nodes (p ∷ qs)) (λ u there. in-left u (nodes (chain p)) (chain_nodes qs) there) (tree (chain p)) (nodes_have_tree (chain p))
chains_have (q ∷ ps) p qs = has-more (chain_nodes (ps ++ p ∷ qs)) (chain_nodes (q ∷ ps ++ p ∷ qs)) (λ u there. in-right u (nodes (chain q)) (chain_nodes (ps ++ p ∷ qs)) there) (tree (chain p)) (chains_have ps p qs)
