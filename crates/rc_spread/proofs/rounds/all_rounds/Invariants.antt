use Rattle.std.proofs.Common.{IfOk, IfErr}
use Rattle.rc_bdd.specs.Work.{IsCause}
use Rattle.rc_nodes.specs.Seats.{IsSeatOf, Keeps}
use Rattle.rc_spread.specs.Known.{IsAfter}
use Rattle.rc_spread.proofs.rounds.all_rounds.Given as goal

abbrev pub invariant-loop-number : goal.invariant-loop-number
invariant-loop-number g l = record {
  mine : IsSeatOf l.nodes l.work;
  keeps : Keeps l.fn.work l.work;
  after : IfOk l.made (λ v. IsAfter l.work v.items l.fresh.items (g.S.Spread.set_after l.spread) (g.S.Spread.count l.spread) l.number);
  cause : IfErr l.made (IsCause l.nodes l.work);
}
