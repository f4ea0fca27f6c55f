use Rattle.std.proofs.Common.{◌-◌}
use Rattle.rc_failures.proofs.sharing.+fn-rows_at_once-join+arg2+fn-rows_at_once-join+arg3+rows_at_once.Given as goal

abbrev pub decreases-join+arg2 : goal.decreases-join+arg2
decreases-join+arg2 g l = l.middle - l.first

abbrev pub decreases-join+arg3 : goal.decreases-join+arg3
decreases-join+arg3 g l = l.last - l.middle

abbrev pub decreases-rows_at_once : goal.decreases-rows_at_once
decreases-rows_at_once g l = l.last - l.first
