use Rattle.std.proofs.Common.{ap, refl, subst}
use Rattle.rc_outside.specs.Put.{IsPutByHand}
use Rattle.rc_outside.proofs.PutLaws.{hand_then, hand_stopped}
use Rattle.rc_report.specs.IdleText.{by_text}
use Rattle.rc_report.proofs.LineLaws.{two_behind}
use Rattle.rc_report.proofs.idle.put_open_idle.Goals as goal

pub returns : goal.returns
returns g c =
    let behind = by_text c.as_slice.result.now in
    let same = two_behind c.args.line.now behind c.head_parts-parts.ensures (ap by_text c.as_slice.ensures) in
    subst (λ t. IsPutByHand g.S.Sink c.args.out.now c.put_deciding.new.out c.put_deciding.result t c.put_deciding.new.line) same (hand_then behind c.in_ok-put_parts.ensures c.put_deciding.ensures)

pub returns-in_err-put_parts : goal.returns-in_err-put_parts
returns-in_err-put_parts g c =
    let behind = by_text c.args.idle.now.by in
    let same = two_behind c.args.line.now behind c.head_parts-parts.ensures refl in
    subst (λ t. IsPutByHand g.S.Sink c.args.out.now c.put_parts.new.out c.from_residual.result t c.put_parts.new.line) same (hand_stopped behind _ c.from_residual.ensures.0 c.in_err-put_parts.ensures)
