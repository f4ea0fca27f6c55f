-- What is known of a set of headers that was made in a table of its own.
use Rattle.std.specs.Prelude.{◌≡◌, ◌<◌, ℕ}
use Rattle.std.specs.Set.{distinct_count}
use Rattle.rc_bdd.specs.declared.work.SetError.{SetError}
use Rattle.rc_bdd.specs.declared.work.SetError.TheVariants.{Full}
use Rattle.rc_nodes.specs.Seats.{IsKnown, IsSeatOf, SeatKnows}
use Rattle.rc_reach.specs.Asked.{IsAskedSet, nodes_asked}
use Rattle.rc_reach.specs.declared.asked.Asked.{Asked}
use Rattle.rc_reach.specs.declared.asked_table.AskedSet.{AskedSet}
use Rattle.rc_trees.specs.Trees.{Tree, same_tree}
use Rattle.rc_moves.specs.Moves.{DataPlane}

-- the seat is the table's, and knows the set as that of the headers that a question is about
pub record HoldsAsked (plane : DataPlane) (asked : Asked) (r : AskedSet) : Type 0 where
  pub seat : IsSeatOf r.nodes r.seat
  pub known : IsKnown r.seat r.set.index
  pub exact : (t : Tree) → SeatKnows r.seat r.set.index t → IsAskedSet plane asked t

-- so many nodes are too few for a question: its operations have more different trees
abbrev pub AreTooFew : ℕ → DataPlane → Asked → Type 0
AreTooFew most plane asked = most < distinct_count same_tree (nodes_asked plane asked)

-- a table of so many nodes is full only where they are too few
abbrev pub IsFullAtMost : ℕ → DataPlane → Asked → SetError → Type 0
IsFullAtMost most plane asked e = e ≡ Full → AreTooFew most plane asked
