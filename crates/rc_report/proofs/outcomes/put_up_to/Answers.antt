use Rattle.std.proofs.Common.{refl, subst, flat_map}
use Rattle.rc_outside.specs.Put.{IsPutByHand}
use Rattle.rc_outside.proofs.PutLaws.{hand_then, hand_stopped}
use Rattle.rc_report.specs.OutcomeText.{end_text}
use Rattle.rc_report.specs.Parts.{part_text}
use Rattle.rc_report.proofs.LineLaws.{two_behind}
use Rattle.rc_report.proofs.outcomes.put_up_to.Goals as goal

pub returns : goal.returns
returns g c =
    let text = flat_map part_text c.end_parts-parts.result in
    let same = two_behind c.args.line.now text refl c.end_parts-parts.ensures in
    subst (λ t. IsPutByHand g.S.Sink c.args.out.now c.put_parts-2.new.out c.put_parts-2.result t c.put_parts-2.new.line) same (hand_then text c.in_ok-put_parts.ensures c.put_parts-2.ensures)

pub returns-in_err-put_parts : goal.returns-in_err-put_parts
returns-in_err-put_parts g c =
    let text = end_text c.args.end in
    let same = two_behind c.args.line.now text refl refl in
    subst (λ t. IsPutByHand g.S.Sink c.args.out.now c.put_parts.new.out c.from_residual.result t c.put_parts.new.line) same (hand_stopped text _ c.from_residual.ensures.0 c.in_err-put_parts.ensures)
