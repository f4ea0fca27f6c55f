use Rattle.std.proofs.Common.{ℕ, List, take}
use Rattle.rc_nodes.specs.Seats.{IsSeatOf, Keeps, SeatKnows}
use Rattle.rc_spread.specs.Gathered.{gathered}
use Rattle.rc_spread.specs.United.{KnowsPassages}
use Rattle.rc_trees.specs.Trees.{Tree, never}
use Rattle.rc_spread.proofs.united.in_turn.Given as goal

abbrev pub invariant-loop-passage : goal.invariant-loop-passage
invariant-loop-passage g l = record {
  mine : IsSeatOf l.nodes l.work;
  keeps : Keeps l.fn.work l.work;
  so_far : (sets : ℕ → Tree) (flows : List (ℕ × Tree)) → KnowsPassages l.fn.work sets l.passages flows → SeatKnows l.work l.set.index (gathered sets never (take l.passage-index flows));
}
