use Rattle.std.proofs.Common.{◌≡◌, ◌==◌, ℕ, ◌<◌, ◌≤◌, not, false, slice_index_or}
use Rattle.rc_jobs.specs.Flows.{no_header}
use Rattle.rc_spread.proofs.first.mark.Given as goal

abbrev pub invariant-loop-q : goal.invariant-loop-q
invariant-loop-q l = record {
  few : l.many ≤ l.q;
  marked : (q : ℕ) → q < l.q → slice_index_or l.fresh q false ≡ not ((slice_index_or l.old q no_header).index == (slice_index_or l.new q no_header).index);
  none : l.many ≡ 0 → (q : ℕ) → q < l.q → slice_index_or l.fresh q false ≡ false;
}
