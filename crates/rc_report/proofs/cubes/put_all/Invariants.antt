use Rattle.std.proofs.Common.{◌≡◌}
use Rattle.std.specs.Slice.Iter.{iter_rest}
use Rattle.rc_cubes.specs.Count.{cubes_left}
use Rattle.rc_cubes.specs.Cubes.{cubes, left}
use Rattle.rc_nodes.specs.Seats.{IsSeatOf, Keeps, SeatKnows}
use Rattle.rc_trees.specs.Trees.{Tree}
use Rattle.rc_report.proofs.CubeLaws.{IsPutUpTo}
use Rattle.rc_report.proofs.cubes.put_all.Given as goal

-- the lines of the cubes before those that are left are put
abbrev pub invariant-loop-cube : goal.invariant-loop-cube
invariant-loop-cube g l = record {
  seat : IsSeatOf l.nodes l.seat;
  keeps : Keeps l.fn.seat l.seat;
  set : l.cubes.set ≡ l.fn.set;
  put : (t : Tree) → SeatKnows l.fn.seat l.fn.set.index t → IsPutUpTo l.net g.S.Sink l.fn.out l.out (cubes t) l.fn.examples (left l.cubes.last t) (iter_rest l.left);
}

abbrev pub decreases-loop-cube : goal.decreases-loop-cube
decreases-loop-cube g l = cubes_left l.seat l.cubes
