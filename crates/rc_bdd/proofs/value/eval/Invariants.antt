-- The set at hand has the value of the whole, and tests no variable before the step.
use Rattle.rc_nodes.specs.Seats.{IsSeatOf, Keeps}
use Rattle.rc_bdd.proofs.ValueLaws.{IsAt}
use Rattle.rc_bdd.proofs.value.eval.Given as goal

abbrev pub invariant-loop-step : goal.invariant-loop-step
invariant-loop-step g l = record {
  seat : IsSeatOf l.nodes l.seat;
  keeps : Keeps l.initial.seat l.seat;
  at : IsAt l.initial.seat l.seat l.fn.set.index l.at.index l._step l.header;
}
