use Rattle.std.proofs.Common.{◌≡◌}
use Rattle.rc_jobs.proofs.bounds.Bounds.even.Given as goal

abbrev pub invariant-loop-share : goal.invariant-loop-share
invariant-loop-share l = l.bounds.items ≡ l.items
