use Rattle.std.proofs.Common.{◌≡◌, List, [], replicate}
use Rattle.rc_jobs.specs.declared.flow.Flow.{Flow}
use Rattle.rc_spread.proofs.turning.no_flows.Given as goal

abbrev pub invariant-loop-row : goal.invariant-loop-row
invariant-loop-row l = l.rows.items ≡ replicate {A = List Flow} l._row []
