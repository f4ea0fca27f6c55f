-- What the parts of a set's making ask.
use Rattle.std.specs.Prelude.{◌≢◌, ℕ, ◌<◌, Bool}
use Rattle.rc_base.specs.Header.{bit_count}
use Rattle.rc_config.specs.declared.access_list.Action.{Action}
use Rattle.rc_trees.specs.Trees.{Tree, never, top, HasNodes, HasNodesOf}
use Rattle.rc_trees.specs.Recipes.{Recipe, parts, tree}
use Rattle.rc_trees.specs.Fields.{with_bit}
use Rattle.rc_nodes.specs.Seats.{TableView, SeatView, SeatKnows}
use Rattle.rc_sets.specs.AccessLists.{with_line}

-- a known tree of some headers that tests greater bits, and the nodes of what comes with one bit more may be made
pub record MayFollow (nodes : TableView) (seat : SeatView) (free one : Bool) (var r : ℕ) : Type 0 where
  pub bit : var < bit_count
  pub rest : Tree
  pub known : SeatKnows seat r rest
  pub some : rest ≢ never
  pub rises : var < top rest
  pub allowed : HasNodesOf nodes.may (with_bit free one var rest)

-- a set and what a line matches are known, and the set with the line in front may be made
pub record MayAdd (nodes : TableView) (seat : SeatView) (action : Action) (matched set : ℕ) : Type 0 where
  pub line : Recipe
  pub rest : Recipe
  pub knows_line : SeatKnows seat matched (tree line)
  pub knows_rest : SeatKnows seat set (tree rest)
  pub allowed : HasNodes nodes.may (parts (with_line action line rest))
