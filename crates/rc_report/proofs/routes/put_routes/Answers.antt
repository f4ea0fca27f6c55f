use Rattle.std.proofs.Common.{flat_map}
use Rattle.rc_outside.proofs.PutLaws.{put_then, put_stopped}
use Rattle.rc_report.specs.RouteText.{route_line, routes_text}
use Rattle.rc_report.proofs.routes.put_routes.Goals as goal

pub returns : goal.returns
unfolding routes_text
returns g c = rw (← c.as_slice.ensures) (put_then c.in_ok-put_router.ensures c.put_table.ensures)

pub returns-in_err-put_router : goal.returns-in_err-put_router
unfolding routes_text
returns-in_err-put_router g c = put_stopped (flat_map (route_line c.args.net.now) c.args.table.now) c.from_residual.ensures.0 c.in_err-put_router.ensures
