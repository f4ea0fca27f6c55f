use Rattle.rc_moves.proofs.PlaneLaws.{prepared}
use Rattle.rc_moves.proofs.tables.Tables.by_workers.Goals as goal

pub invariant_of-result : goal.invariant_of-result
invariant_of-result g c = record { resolved = rw c.in_ok-fibs.ensures.value (prepared _); in_order = c.in_ok-fibs.ensures.in_order }
