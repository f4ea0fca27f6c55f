use Rattle.rc_nodes.specs.Seats.{IsSeatOf, Keeps}
use Rattle.rc_spread.specs.Alone.{AreListed}
use Rattle.rc_spread.specs.Known.{IsAfter}
use Rattle.rc_spread.proofs.by_flows.rounds_by_flows.Given as goal

abbrev pub invariant-loop-number : goal.invariant-loop-number
invariant-loop-number g l = record {
  mine : IsSeatOf l.nodes l.work;
  keeps : Keeps l.fn.work l.work;
  after : IsAfter l.work l.made.sets.items l.made.fresh.items (g.S.Spread.set_after l.spread) (g.S.Spread.count l.spread) l.number;
  listed : AreListed l.made.fresh.items l.made.changed.items;
}
