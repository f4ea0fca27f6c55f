-- When the next call of a sink in memory fails.
use Rattle.std.specs.Prelude.{ℕ, ◌-◌, ◌<◌, ◌⊎◌, List, length, Option, IsSome}
use Rattle.rc_outside.specs.declared.mem_sink.MemSink.{MemSink}
use Rattle.rc_outside.specs.Causes.{counted}
use Rattle.rc_outside.specs.Failures.{failure_of}

-- the bytes that there is still room for
abbrev pub free_of : MemSink → ℕ
free_of sink = sink.room - length sink.bytes.items

-- the failure that is listed for the next call, where there is one; calls are counted from 1
abbrev pub next_failure : MemSink → Option ℕ
next_failure sink = failure_of sink.failures.items (counted sink.calls)

-- the next call fails: it is listed, or the piece does not fit the room
abbrev pub FailsNext : MemSink → List ℕ → Type 0
FailsNext sink piece = IsSome (next_failure sink) ⊎ (free_of sink < length piece)
