use Rattle.std.proofs.Common.{ap, refl, subst, append-nil, flat_map}
use Rattle.rc_outside.specs.Put.{IsPutByHand}
use Rattle.rc_outside.proofs.PutLaws.{hand_then, hand_stopped}
use Rattle.rc_report.specs.CubeText.{field_text, fields_text}
use Rattle.rc_report.proofs.LineLaws.{two_behind}
use Rattle.rc_report.proofs.cubes.put_open_line.Goals as goal

pub returns : goal.returns
unfolding fields_text
returns g c =
    let text = flat_map (field_text c.args.told.now) in
    let whole = two_behind c.args.line.now (text c.all-fields.result.now) (append-nil c.args.head.now) (ap text c.all-fields.ensures) in
    subst (λ t. IsPutByHand g.S.Sink c.args.out.now c.put_fields.new.out c.put_fields.result t c.put_fields.new.line) whole (hand_then (text c.all-fields.result.now) c.in_ok-put_parts.ensures c.put_fields.ensures)

pub returns-in_err-put_parts : goal.returns-in_err-put_parts
returns-in_err-put_parts g c =
    let text = fields_text c.args.told.now in
    let whole = two_behind c.args.line.now text (append-nil c.args.head.now) refl in
    subst (λ t. IsPutByHand g.S.Sink c.args.out.now c.put_parts.new.out c.from_residual.result t c.put_parts.new.line) whole (hand_stopped text _ c.from_residual.ensures.0 c.in_err-put_parts.ensures)
