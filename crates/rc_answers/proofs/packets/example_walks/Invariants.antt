use Rattle.std.proofs.Common.{◌≡◌}
use Rattle.rc_cubes.specs.Cubes.{cubes, left}
use Rattle.rc_nodes.specs.Seats.{IsSeatOf, Keeps, SeatKnows}
use Rattle.rc_trees.specs.Trees.{Tree}
use Rattle.rc_answers.proofs.ExampleLaws.{AreUnderWay}
use Rattle.rc_answers.proofs.packets.example_walks.Given as goal

abbrev pub invariant-loop : goal.invariant-loop
invariant-loop g l = record {
  seat : IsSeatOf l.nodes l.seat;
  keeps : Keeps l.fn.seat l.seat;
  set : l.cubes.set ≡ l.fn.set;
  way : (t : Tree) → SeatKnows l.fn.seat l.fn.set.index t → AreUnderWay l.plane l.asked (cubes t) l.counter (left l.cubes.last t) l.walks.items;
}
