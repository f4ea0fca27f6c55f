use Rattle.std.proofs.Common.{rules, ◌≡◌, arith}
use Rattle.std.specs.Arc.{arc_value}
use Rattle.rc_outside.proofs.PutLaws.{each_put, each_stopped}
use Rattle.rc_report.specs.StateText.{part_lines}
use Rattle.rc_report.proofs.tables.put_parts.Goals as goal

pub returns-in_err-put_table : goal.returns-in_err-put_table
unfolding part_lines
returns-in_err-put_table g c =
    let same : c.as_slice.result.now ≡ arc_value c.part-item.result = search rules in
    each_stopped (part_lines c.args.net.now) c.args.parts.now c.loop-part.part-index c.part-item.result c.from_residual.ensures.0 (omega arith) c.part-item.is c.loop-part.invariant
    (rw (← same) c.in_err-put_table.ensures)

pub loop-part-preserved : goal.loop-part-preserved
unfolding part_lines
loop-part-preserved g c =
    let same : c.as_slice.result.now ≡ arc_value c.part-item.result = search rules in
    each_put (part_lines c.args.net.now) c.args.parts.now c.loop-part.part-index c.part-item.result (omega arith) c.part-item.is c.loop-part.invariant
    (rw (← same) c.in_ok-put_table.ensures)
