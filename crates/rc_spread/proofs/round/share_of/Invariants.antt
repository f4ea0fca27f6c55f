use Rattle.std.proofs.Common.{◌+◌}
use Rattle.rc_nodes.specs.Seats.{IsSeatOf, Keeps}
use Rattle.rc_spread.specs.Known.{KnowsShare}
use Rattle.rc_spread.proofs.round.share_of.Given as goal

abbrev pub invariant-loop-q : goal.invariant-loop-q
invariant-loop-q g l = record {
  mine : IsSeatOf l.nodes l.work;
  keeps : Keeps l.fn.work l.work;
  known : KnowsShare l.work l.made.items (g.S.Spread.set_after l.round.spread.now (l.round.number + 1)) l.from l.q;
}
