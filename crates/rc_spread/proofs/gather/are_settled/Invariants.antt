use Rattle.std.proofs.Common.{◌≡◌, ℕ, ◌<◌, false, slice_index_or}
use Rattle.rc_jobs.specs.declared.flow.Flow.{Flow as FlowOf}
use Rattle.rc_spread.proofs.gather.are_settled.Given as goal

abbrev pub invariant-loop-flow : goal.invariant-loop-flow
invariant-loop-flow l = (i : ℕ) (d : FlowOf) → i < l.flow-index → slice_index_or l.fresh (slice_index_or l.flows i d).from false ≡ false
