-- The headers that loop, as they are made.
use Rattle.std.specs.Prelude.{ℕ, zero, suc, List, filter, flat_map, length}
use Rattle.rc_base.specs.Lists.{first_seen}
use Rattle.rc_base.specs.declared.position.Pos.{Pos}
use Rattle.rc_config.specs.Members.{positions}
use Rattle.rc_router_sets.specs.Edges.{edge}
use Rattle.rc_trees.specs.Recipes.{Recipe, given, and, parts, union_of}
use Rattle.rc_trees.specs.Trees.{Tree, always, is_node, same_tree}
use Rattle.rc_moves.specs.Moves.{DataPlane}

module _ (plane : DataPlane) where
  -- the headers with so many moves one after another from a position
  unfoldable pub going_on : ℕ → Pos → Recipe
  going_on zero q = given always
  going_on (suc k) q = union_of (λ t. and (edge plane q t) (going_on k t)) (positions plane.network)

  -- the headers that loop from a position: with as many moves as there are positions
  unfoldable pub looping : Pos → Recipe
  looping q = going_on (length (positions plane.network)) q

  -- the different trees that may be made for them, at all positions: their nodes
  unfoldable pub loop_nodes : List Tree
  loop_nodes = first_seen same_tree (filter is_node (flat_map (λ q. parts (looping q)) (positions plane.network)))
