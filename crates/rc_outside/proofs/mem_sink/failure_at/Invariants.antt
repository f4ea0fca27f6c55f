use Rattle.std.proofs.Common.{◌≡◌, drop}
use Rattle.rc_outside.specs.Failures.{failure_of}
use Rattle.rc_outside.proofs.mem_sink.failure_at.Given as goal

abbrev pub invariant-loop-number : goal.invariant-loop-number
invariant-loop-number l = failure_of (drop l.number-index l.failures) l.call ≡ failure_of l.failures l.call
