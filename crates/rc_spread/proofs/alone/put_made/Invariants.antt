use Rattle.rc_spread.specs.Alone.{AreListed, ArePut}
use Rattle.rc_spread.proofs.alone.put_made.Given as goal

abbrev pub invariant-loop-index : goal.invariant-loop-index
invariant-loop-index l = record {
  put : ArePut l.fn.sets.items l.positions l.made l.index l.sets.items l.fresh.items;
  listed : AreListed l.fresh.items l.changed.items;
}
