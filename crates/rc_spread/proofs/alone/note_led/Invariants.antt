use Rattle.std.proofs.Common.{◌≡◌, ℕ, ◌<◌, length, slice_index_or}
use Rattle.std.specs.List.{Contains}
use Rattle.rc_jobs.specs.declared.flow.Flow.{Flow}
use Rattle.rc_spread.specs.Alone.{AreKept, AreListed}
use Rattle.rc_spread.proofs.alone.note_led.Given as goal

abbrev pub invariant-loop-flow : goal.invariant-loop-flow
invariant-loop-flow l = record {
  many : length l.marked.items ≡ length l.fn.marked.items;
  listed : AreListed l.marked.items l.found.items;
  kept : AreKept l.fn.found.items l.found.items;
  noted : (i : ℕ) (d : Flow) → i < l.flow-index → Contains l.found.items (slice_index_or l.flows i d).from;
}
