use Rattle.std.proofs.Common.{refl, arith}
use Rattle.rc_outside.proofs.PutLaws.{each_hand, each_hand_stopped}
use Rattle.rc_report.specs.Parts.{part_text}
use Rattle.rc_report.proofs.put.put_parts.Goals as goal

pub returns-in_err-put_part : goal.returns-in_err-put_part
returns-in_err-put_part g c =
    let part = c.part-item.result in
    each_hand_stopped part_text c.args.parts.now c.loop-part.part-index part c.args.line.now (part_text part) _ c.from_residual.ensures.0 (omega arith) c.part-item.is refl c.loop-part.invariant c.in_err-put_part.ensures

pub loop-part-preserved : goal.loop-part-preserved
loop-part-preserved g c =
    let part = c.part-item.result in
    each_hand part_text c.args.parts.now c.loop-part.part-index part c.args.line.now (part_text part) (omega arith) c.part-item.is refl c.loop-part.invariant c.in_ok-put_part.ensures
