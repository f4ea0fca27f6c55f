use Rattle.std.proofs.Common.{◌≡◌, ◌∙◌, ap, flat_map}
use Rattle.rc_outside.proofs.PutLaws.{put_then, put_stopped}
use Rattle.rc_report.specs.RouteText.{route_line, routes_text}
use Rattle.rc_report.specs.StateText.{part_lines}
use Rattle.rc_report.proofs.PartLaws.{lines_of_parts}
use Rattle.rc_report.proofs.tables.put_known.Goals as goal

pub returns : goal.returns
unfolding routes_text
returns g c =
    let net = c.args.net.now in
    let same : flat_map (part_lines net) c.parts.result.now ≡ flat_map (route_line net) c.args.known.now.table = lines_of_parts net c.parts.result.now ∙ ap (flat_map (route_line net)) c.parts.ensures in
    rw (← same) (put_then c.in_ok-put_router.ensures c.put_parts.ensures)

pub returns-in_err-put_router : goal.returns-in_err-put_router
unfolding routes_text
returns-in_err-put_router g c = put_stopped (flat_map (route_line c.args.net.now) c.args.known.now.table) c.from_residual.ensures.0 c.in_err-put_router.ensures
