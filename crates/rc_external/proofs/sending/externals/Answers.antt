use Rattle.rc_external.proofs.OrderLaws.{rows_in_order}
use Rattle.rc_external.proofs.sending.externals.Goals as goal

pub returns-clause-in_order : goal.returns-clause-in_order
returns-clause-in_order c = rows_in_order _ c.as_slice.result.now c.externals_by_prefix.ensures
