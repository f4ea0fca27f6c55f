use Rattle.rc_nodes.specs.Seats.{IsSeatOf, Keeps, SeatKnows}
use Rattle.rc_trees.specs.Fields.{masked}
use Rattle.rc_sets.proofs.number.masked_set.Given as goal

abbrev pub invariant-loop-place : goal.invariant-loop-place
invariant-loop-place g l = record {
  seat : IsSeatOf l.nodes l.work;
  keeps : Keeps l.initial.work l.work;
  so_far : SeatKnows l.work l.set.index (masked l.last l.place l.wildcard l.number);
}
