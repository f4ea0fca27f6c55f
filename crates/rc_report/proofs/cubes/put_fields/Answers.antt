use Rattle.std.proofs.Common.{flat_map, arith, get_or}
use Rattle.std.proofs.lemmas.List.{get_or_default}
use Rattle.rc_base.specs.declared.field.Field.TheVariants.{Dst}
use Rattle.rc_outside.proofs.PutLaws.{each_hand, each_hand_stopped}
use Rattle.rc_report.specs.CubeText.{field_text}
use Rattle.rc_report.specs.Parts.{part_text}
use Rattle.rc_report.proofs.cubes.put_fields.Goals as goal

pub returns-in_err-put_parts : goal.returns-in_err-put_parts
returns-in_err-put_parts g c =
    let parts = flat_map part_text c.field_parts-parts.result in
    let i = c.loop-field.field-index in
    each_hand_stopped (field_text c.args.told.now) c.args.fields.now i (get_or c.args.fields.now i Dst) c.args.line.now parts _ c.from_residual.ensures.0 (omega arith) (get_or_default c.args.fields.now i _ _ (omega arith)) c.field_parts-parts.ensures c.loop-field.invariant c.in_err-put_parts.ensures

pub loop-field-preserved : goal.loop-field-preserved
loop-field-preserved g c =
    let parts = flat_map part_text c.field_parts-parts.result in
    let i = c.loop-field.field-index in
    each_hand (field_text c.args.told.now) c.args.fields.now i (get_or c.args.fields.now i Dst) c.args.line.now parts (omega arith) (get_or_default c.args.fields.now i _ _ (omega arith)) c.field_parts-parts.ensures c.loop-field.invariant c.in_ok-put_parts.ensures
