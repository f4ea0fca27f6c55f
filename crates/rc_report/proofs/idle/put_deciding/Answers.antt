use Rattle.std.proofs.Common.{refl, subst, flat_map, append-nil, ◌∙◌}
use Rattle.rc_outside.specs.Put.{IsPutByHand}
use Rattle.rc_outside.proofs.PutLaws.{hand_then, hand_stopped}
use Rattle.rc_report.specs.IdleText.{number_behind}
use Rattle.rc_report.proofs.LineLaws.{two_behind}
use Rattle.rc_report.proofs.idle.put_deciding.Goals as goal

pub returns : goal.returns
returns g c =
    let numbers = flat_map number_behind c.args.numbers.now in
    let whole = two_behind c.args.line.now numbers (append-nil c.by_word-word.result.now ∙ c.by_word-word.ensures) refl in
    subst (λ t. IsPutByHand g.S.Sink c.args.out.now c.put_numbers.new.out c.put_numbers.result t c.put_numbers.new.line) whole (hand_then numbers c.in_ok-put_parts.ensures c.put_numbers.ensures)

pub returns-in_err-put_parts : goal.returns-in_err-put_parts
returns-in_err-put_parts g c =
    let numbers = flat_map number_behind c.args.numbers.now in
    let whole = two_behind c.args.line.now numbers (append-nil c.by_word-word.result.now ∙ c.by_word-word.ensures) refl in
    subst (λ t. IsPutByHand g.S.Sink c.args.out.now c.put_parts.new.out c.from_residual.result t c.put_parts.new.line) whole (hand_stopped numbers _ c.from_residual.ensures.0 c.in_err-put_parts.ensures)
