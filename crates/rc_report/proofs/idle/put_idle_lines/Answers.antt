use Rattle.std.proofs.Common.{arith}
use Rattle.rc_outside.proofs.PutLaws.{each_put, each_stopped}
use Rattle.rc_report.specs.IdleText.{idle_line}
use Rattle.rc_report.proofs.idle.put_idle_lines.Goals as goal

pub returns-in_err-put_idle_line : goal.returns-in_err-put_idle_line
returns-in_err-put_idle_line g c = each_stopped (idle_line c.args.filter.now) c.args.lines.now c.loop-idle.idle-index c.idle-item.result c.from_residual.ensures.0 (omega arith) c.idle-item.is c.loop-idle.invariant c.in_err-put_idle_line.ensures

pub loop-idle-preserved : goal.loop-idle-preserved
loop-idle-preserved g c = each_put (idle_line c.args.filter.now) c.args.lines.now c.loop-idle.idle-index c.idle-item.result (omega arith) c.idle-item.is c.loop-idle.invariant c.in_ok-put_idle_line.ensures
