use Rattle.std.proofs.Common.{flat_map, arith, get_or}
use Rattle.std.proofs.lemmas.List.{get_or_default}
use Rattle.rc_outside.proofs.PutLaws.{each_hand, each_hand_stopped}
use Rattle.rc_report.specs.IdleText.{number_behind}
use Rattle.rc_report.specs.Parts.{part_text}
use Rattle.rc_report.proofs.idle.put_numbers.Goals as goal

pub returns-in_err-put_parts : goal.returns-in_err-put_parts
returns-in_err-put_parts g c =
    let parts = flat_map part_text c.number_parts-parts.result in
    let i = c.loop-number.number-index in
    each_hand_stopped number_behind c.args.numbers.now i (get_or c.args.numbers.now i 0) c.args.line.now parts _ c.from_residual.ensures.0 (omega arith) (get_or_default c.args.numbers.now i _ _ (omega arith)) c.number_parts-parts.ensures c.loop-number.invariant c.in_err-put_parts.ensures

pub loop-number-preserved : goal.loop-number-preserved
loop-number-preserved g c =
    let parts = flat_map part_text c.number_parts-parts.result in
    let i = c.loop-number.number-index in
    each_hand number_behind c.args.numbers.now i (get_or c.args.numbers.now i 0) c.args.line.now parts (omega arith) (get_or_default c.args.numbers.now i _ _ (omega arith)) c.number_parts-parts.ensures c.loop-number.invariant c.in_ok-put_parts.ensures
