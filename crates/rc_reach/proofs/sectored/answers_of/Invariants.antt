use Rattle.rc_nodes.specs.Seats.{IsSeatOf, Keeps}
use Rattle.rc_reach.specs.Sectored.{answer_in}
use Rattle.rc_spread.specs.Known.{KnowsShare}
use Rattle.rc_reach.proofs.sectored.answers_of.Given as goal

abbrev pub invariant-loop-index : goal.invariant-loop-index
invariant-loop-index g l = record {
  mine : IsSeatOf l.nodes l.work;
  keeps : Keeps l.fn.work l.work;
  known : KnowsShare l.work l.sets.items (answer_in l.asked) l.from l.index;
}
