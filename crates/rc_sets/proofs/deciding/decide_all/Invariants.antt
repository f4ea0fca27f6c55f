use Rattle.rc_nodes.specs.Seats.{IsSeatOf, Keeps}
use Rattle.rc_sets.proofs.DecidingLaws.{IsWalked}
use Rattle.rc_sets.proofs.deciding.decide_all.Given as goal

-- the lines that aren't left are decided, and what they match is known
abbrev pub invariant-loop-line : goal.invariant-loop-line
invariant-loop-line g l = record {
  seat : IsSeatOf l.nodes l.work;
  keeps : Keeps l.fn.work l.work;
  walked : IsWalked l.work l.lines l.line-iterator l.all.items l.seen.index l.last.index;
}
