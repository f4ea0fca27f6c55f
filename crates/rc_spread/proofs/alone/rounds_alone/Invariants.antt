use Rattle.rc_nodes.specs.Seats.{IsSeatOf, Keeps}
use Rattle.rc_spread.specs.Alone.{AreListed}
use Rattle.rc_spread.specs.Known.{IsAfter}
use Rattle.rc_spread.proofs.alone.rounds_alone.Given as goal

abbrev pub invariant-loop-number : goal.invariant-loop-number
invariant-loop-number g l = record {
  mine : IsSeatOf l.nodes l.work;
  keeps : Keeps l.fn.work l.work;
  after : IsAfter l.work l.sets.items l.fresh.items (g.S.Spread.set_after l.spread) (g.S.Spread.count l.spread) l.number;
  listed : AreListed l.fresh.items l.changed.items;
}
