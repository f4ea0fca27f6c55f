-- What is asked of a plane: the headers that it is about, and the trees that may be made for them.
use Rattle.std.specs.Prelude.{List}
use Rattle.rc_base.specs.declared.header.Header.{Header}
use Rattle.rc_base.specs.declared.position.Pos.{Pos}
use Rattle.rc_router_sets.specs.Query.{IsReaching, query_nodes, reaching}
use Rattle.rc_moves.specs.Walks.{IsLooping}
use Rattle.rc_reach.specs.Loops.{loop_nodes, looping}
use Rattle.rc_reach.specs.Reaching.{IsSetOf}
use Rattle.rc_reach.specs.Uneven.{IsUneven, uneven, uneven_nodes}
use Rattle.rc_reach.specs.declared.asked.Asked.{Asked}
use Rattle.rc_reach.specs.declared.asked.Asked.TheVariants.{Reaching, Looping, Uneven}
use Rattle.rc_trees.specs.Recipes.{Recipe}
use Rattle.rc_trees.specs.Trees.{Tree}
use Rattle.rc_moves.specs.Moves.{DataPlane}

-- the place from which the packets start
abbrev pub place_of : Asked → Pos
place_of (Reaching q ends) = q
place_of (Looping q) = q
place_of (Uneven q) = q

module _ (plane : DataPlane) where
  -- the set of the headers that a question is about, as it is made
  abbrev pub set_asked : Asked → Recipe
  set_asked (Reaching q ends) = reaching plane q ends
  set_asked (Looping q) = looping plane q
  set_asked (Uneven q) = uneven plane q

  -- the different trees that may be made for it: its nodes
  abbrev pub nodes_asked : Asked → List Tree
  nodes_asked (Reaching q ends) = query_nodes plane q ends
  nodes_asked (Looping q) = loop_nodes plane
  nodes_asked (Uneven q) = uneven_nodes plane q

  -- what its headers do: some walk reaches an ending asked for; some walk comes back to itself; walks arrive and fail
  abbrev pub DoesAsAsked : Asked → Header → Type 0
  DoesAsAsked (Reaching q ends) h = IsReaching plane h q ends
  DoesAsAsked (Looping q) h = IsLooping plane h q
  DoesAsAsked (Uneven q) h = IsUneven plane h q

  -- the set of exactly these headers
  abbrev pub IsAskedSet : Asked → Tree → Type 0
  IsAskedSet asked = IsSetOf (DoesAsAsked asked)
