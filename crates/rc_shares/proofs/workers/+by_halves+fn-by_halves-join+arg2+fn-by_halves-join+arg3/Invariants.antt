use Rattle.std.proofs.Common.{◌-◌}
use Rattle.rc_shares.proofs.workers.+by_halves+fn-by_halves-join+arg2+fn-by_halves-join+arg3.Given as goal

abbrev pub decreases-join+arg2 : goal.decreases-join+arg2
decreases-join+arg2 g l = l.middle - l.first

abbrev pub decreases-join+arg3 : goal.decreases-join+arg3
decreases-join+arg3 g l = l.last - l.middle

abbrev pub decreases-by_halves : goal.decreases-by_halves
decreases-by_halves g l = l.last - l.first
