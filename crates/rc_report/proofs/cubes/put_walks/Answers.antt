use Rattle.std.proofs.Common.{arith}
use Rattle.rc_outside.proofs.PutLaws.{each_put, each_stopped}
use Rattle.rc_report.specs.WalkText.{walk_text}
use Rattle.rc_report.proofs.cubes.put_walks.Goals as goal

pub returns-in_err-put_walk : goal.returns-in_err-put_walk
returns-in_err-put_walk g c = each_stopped (walk_text c.args.net.now) c.args.walks.now c.loop-walk.walk-index c.walk-item.result c.from_residual.ensures.0 (omega arith) c.walk-item.is c.loop-walk.invariant c.in_err-put_walk.ensures

pub loop-walk-preserved : goal.loop-walk-preserved
loop-walk-preserved g c = each_put (walk_text c.args.net.now) c.args.walks.now c.loop-walk.walk-index c.walk-item.result (omega arith) c.walk-item.is c.loop-walk.invariant c.in_ok-put_walk.ensures
