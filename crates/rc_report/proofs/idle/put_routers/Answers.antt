use Rattle.std.proofs.Common.{arith}
use Rattle.rc_outside.proofs.PutLaws.{each_put, each_stopped}
use Rattle.rc_report.specs.IdleText.{router_text}
use Rattle.rc_report.proofs.idle.put_routers.Goals as goal

pub returns-in_err-put_router : goal.returns-in_err-put_router
returns-in_err-put_router g c = each_stopped router_text c.args.routers.now c.loop-router.router-index c.router-item.result c.from_residual.ensures.0 (omega arith) c.router-item.is c.loop-router.invariant c.in_err-put_router.ensures

pub loop-router-preserved : goal.loop-router-preserved
loop-router-preserved g c = each_put router_text c.args.routers.now c.loop-router.router-index c.router-item.result (omega arith) c.router-item.is c.loop-router.invariant c.in_ok-put_router.ensures
