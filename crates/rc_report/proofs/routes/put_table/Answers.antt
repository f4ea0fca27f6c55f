use Rattle.std.proofs.Common.{arith}
use Rattle.rc_outside.proofs.PutLaws.{each_put, each_stopped}
use Rattle.rc_report.specs.RouteText.{route_line}
use Rattle.rc_report.proofs.routes.put_table.Goals as goal

pub returns-in_err-put_route : goal.returns-in_err-put_route
returns-in_err-put_route g c = each_stopped (route_line c.args.net.now) c.args.routes.now c.loop-route.route-index c.route-item.result c.from_residual.ensures.0 (omega arith) c.route-item.is c.loop-route.invariant c.in_err-put_route.ensures

pub loop-route-preserved : goal.loop-route-preserved
loop-route-preserved g c = each_put (route_line c.args.net.now) c.args.routes.now c.loop-route.route-index c.route-item.result (omega arith) c.route-item.is c.loop-route.invariant c.in_ok-put_route.ensures
