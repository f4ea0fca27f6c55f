use Rattle.std.proofs.Common.{take}
use Rattle.rc_edges.proofs.RowLaws.{AreFlushedTo}
use Rattle.rc_edges.proofs.outgoing.flush.Given as goal

-- so far what is sent to the first of the touched positions is among the flows
abbrev pub invariant-loop-at : goal.invariant-loop-at
invariant-loop-at l = AreFlushedTo l.fn.into.items l.into.items l.row.sets.items l.from (take l.at l.row.touched.items)
