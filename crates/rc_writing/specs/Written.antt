-- A text is written, and a status answered.
use Rattle.std.specs.Prelude.{◌≡◌, ◌⊎◌, ℕ, List, Option}
use Rattle.rc_outside.specs.Sink.{appended, AppendsFront}
use Rattle.rc_route.specs.declared.outcome.RoundsEnd.{RoundsEnd}
use Rattle.rc_route.specs.declared.outcome.RoundsEnd.TheVariants as rounds_end
use Rattle.rc_writing.specs.declared.status.Status.{Status}
use Rattle.rc_writing.specs.declared.status.Status.TheVariants.{Done, Repeats, Limit, Sink, Memory}

-- the status of how rounds ended
abbrev pub status_after : RoundsEnd → Status
status_after (rounds_end.Fixed k) = Done
status_after (rounds_end.Repeats i k) = Repeats
status_after (rounds_end.Limit n) = Limit

-- The text is written and its status answered; or a front of it, where the sink failed.
abbrev pub IsWritten : Status → List ℕ → Status → Option (List ℕ) → Option (List ℕ) → Type 0
IsWritten status text answer old new = ((answer ≡ status) × (new ≡ appended old text)) ⊎ ((answer ≡ Sink) × AppendsFront old new text)

-- the text is written with its status, or a front of it where the sink failed; or nothing is, where memory ran out before
abbrev pub IsWrittenOrMemory : Status → List ℕ → Status → Option (List ℕ) → Option (List ℕ) → Type 0
IsWrittenOrMemory status text answer old new = IsWritten status text answer old new ⊎ ((answer ≡ Memory) × (new ≡ old))
