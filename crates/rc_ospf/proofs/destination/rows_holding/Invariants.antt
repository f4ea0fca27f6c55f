use Rattle.std.proofs.Common.{◌≡◌, ◌++◌, length}
use Rattle.rc_ospf.specs.Routes.{rows_holding}
use Rattle.rc_ospf.proofs.destination.rows_holding.Given as goal

abbrev pub invariant-loop-row : goal.invariant-loop-row
invariant-loop-row l = l.held ++ rows_holding l.address l.left.items ≡ rows_holding l.address l.fn.rows

abbrev pub decreases-loop-row : goal.decreases-loop-row
decreases-loop-row l = length l.left.items
