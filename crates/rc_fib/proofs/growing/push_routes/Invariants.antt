use Rattle.std.proofs.Common.{length}
use Rattle.rc_fib.proofs.GrowingLaws.{Grown}
use Rattle.rc_fib.proofs.growing.push_routes.Given as goal

-- the routes before those that are left are made
abbrev pub invariant-loop-left : goal.invariant-loop-left
invariant-loop-left l = Grown l.fib l.fn.made l.left l.routes l.made

abbrev pub decreases-loop-left : goal.decreases-loop-left
decreases-loop-left l = length l.left
