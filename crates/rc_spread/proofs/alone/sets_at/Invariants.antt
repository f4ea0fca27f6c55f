use Rattle.std.proofs.Common.{◌≡◌, ◌+◌, length}
use Rattle.rc_nodes.specs.Seats.{IsSeatOf, Keeps}
use Rattle.rc_spread.specs.Alone.{KnowsThese}
use Rattle.rc_spread.proofs.alone.sets_at.Given as goal

abbrev pub invariant-loop-q : goal.invariant-loop-q
invariant-loop-q g l = record {
  mine : IsSeatOf l.nodes l.work;
  keeps : Keeps l.fn.work l.work;
  many : length l.made.items ≡ l.q-index;
  known : KnowsThese l.work l.made.items l.positions (g.S.Spread.set_after l.spread (l.number + 1));
}
