use Rattle.std.proofs.Common.{arith}
use Rattle.rc_outside.proofs.PutLaws.{each_put, each_stopped}
use Rattle.rc_report.specs.WalkText.{position_line}
use Rattle.rc_report.proofs.walks.put_positions.Goals as goal

pub returns-in_err-put_position : goal.returns-in_err-put_position
returns-in_err-put_position g c = each_stopped (position_line c.args.net.now) c.args.positions.now c.loop-position.position-index c.position-item.result c.from_residual.ensures.0 (omega arith) c.position-item.is c.loop-position.invariant c.in_err-put_position.ensures

pub loop-position-preserved : goal.loop-position-preserved
loop-position-preserved g c = each_put (position_line c.args.net.now) c.args.positions.now c.loop-position.position-index c.position-item.result (omega arith) c.position-item.is c.loop-position.invariant c.in_ok-put_position.ensures
