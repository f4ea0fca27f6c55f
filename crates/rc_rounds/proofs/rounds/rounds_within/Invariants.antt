use Rattle.std.proofs.Common.{◌≡◌}
use Rattle.rc_rounds.specs.Progress.{IsProgress}
use Rattle.rc_rounds.proofs.rounds.rounds_within.Given as goal

abbrev pub invariant-loop-done : goal.invariant-loop-done
invariant-loop-done g l = record {
  at : l.progress.done ≡ l.done;
  made : IsProgress l.net l.internal l.progress;
}
