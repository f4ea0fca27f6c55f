use Rattle.std.proofs.Common.{◌++◌, codes, flat_map, subst}
use Rattle.rc_outside.specs.Put.{IsPut}
use Rattle.rc_outside.proofs.PutLaws.{hand_ended, line_stopped}
use Rattle.rc_report.specs.RouteText.{hop_text, route_head, route_line}
use Rattle.rc_report.proofs.routes.put_route.Goals as goal

pub returns : goal.returns
unfolding route_line
returns g c =
    let text = route_head c.args.route.now ++ flat_map (hop_text c.args.net.now) c.args.route.now.hops in
    subst (λ begun. IsPut g.S.Sink c.args.out.now c.close_line.new.out c.close_line.result ((begun ++ text) ++ codes "\n")) c.clear.ensures (hand_ended (codes "\n") c.in_ok-put_open_route.ensures c.close_line.ensures)

pub returns-in_err-put_open_route : goal.returns-in_err-put_open_route
unfolding route_line
returns-in_err-put_open_route g c =
    let text = route_head c.args.route.now ++ flat_map (hop_text c.args.net.now) c.args.route.now.hops in
    subst (λ begun. IsPut g.S.Sink c.args.out.now c.put_open_route.new.out c.from_residual.result ((begun ++ text) ++ codes "\n")) c.clear.ensures (line_stopped (codes "\n") c.from_residual.ensures.0 c.in_err-put_open_route.ensures)
