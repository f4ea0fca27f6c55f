use Rattle.std.proofs.Common.{◌≡◌}
use Rattle.rc_outside.specs.Gate.{passage}
use Rattle.rc_outside.proofs.gate.Passed.in_turn.Given as goal

abbrev pub invariant-loop-worker : goal.invariant-loop-worker
invariant-loop-worker g l = l.passed ≡ passage l.phase l.first l.worker
