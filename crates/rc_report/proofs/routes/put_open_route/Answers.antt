use Rattle.std.proofs.Common.{refl, ap, subst, flat_map}
use Rattle.rc_outside.specs.Put.{IsPutByHand}
use Rattle.rc_outside.proofs.PutLaws.{hand_then, hand_stopped}
use Rattle.rc_report.specs.RouteText.{hop_text}
use Rattle.rc_report.proofs.LineLaws.{two_behind}
use Rattle.rc_report.proofs.routes.put_open_route.Goals as goal

pub returns : goal.returns
returns g c =
    let text = hop_text c.args.net.now in
    let hops = flat_map text c.as_slice.result.now in
    let same = two_behind c.args.line.now hops c.head_parts-parts.ensures (ap (flat_map text) c.as_slice.ensures) in
    subst (λ t. IsPutByHand g.S.Sink c.args.out.now c.put_hops.new.out c.put_hops.result t c.put_hops.new.line) same (hand_then hops c.in_ok-put_parts.ensures c.put_hops.ensures)

pub returns-in_err-put_parts : goal.returns-in_err-put_parts
returns-in_err-put_parts g c =
    let hops = flat_map (hop_text c.args.net.now) c.args.route.now.hops in
    let same = two_behind c.args.line.now hops c.head_parts-parts.ensures refl in
    subst (λ t. IsPutByHand g.S.Sink c.args.out.now c.put_parts.new.out c.from_residual.result t c.put_parts.new.line) same (hand_stopped hops _ c.from_residual.ensures.0 c.in_err-put_parts.ensures)
