use Rattle.std.proofs.Common.{take}
use Rattle.rc_nodes.specs.Seats.{IsSeatOf, Keeps, SeatKnows}
use Rattle.rc_sectors.specs.Sectors.{within}
use Rattle.rc_trees.specs.Trees.{Tree}
use Rattle.rc_sectors.proofs.sector.set_in.Given as goal

abbrev pub invariant-loop-bit : goal.invariant-loop-bit
invariant-loop-bit g l = record {
  mine : IsSeatOf l.nodes l.work;
  keeps : Keeps l.fn.work l.work;
  within : (t : Tree) → SeatKnows l.fn.work l.fn.set.index t → SeatKnows l.work l.set.index (within (take l.bit l.sector) t);
}
