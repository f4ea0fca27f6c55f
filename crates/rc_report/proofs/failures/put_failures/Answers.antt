use Rattle.std.proofs.Common.{arith}
use Rattle.rc_outside.proofs.PutLaws.{each_put, each_stopped}
use Rattle.rc_report.specs.FailureText.{failure_line}
use Rattle.rc_report.proofs.failures.put_failures.Goals as goal

pub returns-in_err-put_failure : goal.returns-in_err-put_failure
returns-in_err-put_failure g c = each_stopped (failure_line c.args.net.now) c.args.rows.now c.loop-row.row-index c.row-item.result c.from_residual.ensures.0 (omega arith) c.row-item.is c.loop-row.invariant c.in_err-put_failure.ensures

pub loop-row-preserved : goal.loop-row-preserved
loop-row-preserved g c = each_put (failure_line c.args.net.now) c.args.rows.now c.loop-row.row-index c.row-item.result (omega arith) c.row-item.is c.loop-row.invariant c.in_ok-put_failure.ensures
