use Rattle.std.proofs.Common.{take}
use Rattle.rc_spread.specs.Turned.{AreTurned}
use Rattle.rc_spread.proofs.turning.turn_row.Given as goal

abbrev pub invariant-loop-flow : goal.invariant-loop-flow
invariant-loop-flow l = AreTurned l.fn.out.items (take l.flow-index l.flows) l.onto l.out.items
