use Rattle.std.proofs.Common.{ℕ, List, take}
use Rattle.rc_trees.specs.Trees.{Tree}
use Rattle.rc_nodes.specs.Seats.{IsSeatOf, SeatKnows, Keeps}
use Rattle.rc_spread.specs.Gathered.{gathered}
use Rattle.rc_spread.specs.Known.{AreSent}
use Rattle.rc_spread.proofs.gather.gathered_set.Given as goal

abbrev pub invariant-loop-flow : goal.invariant-loop-flow
invariant-loop-flow g l = record {
  mine : IsSeatOf l.nodes l.work;
  keeps : Keeps l.fn.work l.work;
  so_far : (sets : ℕ → Tree) (start : Tree) (through : List (ℕ × Tree)) → AreSent l.fn.work l.sets l.fresh l.flows l.sector l.fn.here.index sets start through → SeatKnows l.work l.set.index (gathered sets start (take l.flow-index through));
}
