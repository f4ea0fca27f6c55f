use Rattle.std.proofs.Common.{◌++◌, Ok, take, flat_map}
use Rattle.rc_outside.specs.Put.{IsPutByHand}
use Rattle.rc_report.specs.CubeText.{field_text}
use Rattle.rc_report.specs.declared.put.SinkFault.{SinkFault}
use Rattle.rc_report.proofs.cubes.put_fields.Given as goal

abbrev pub invariant-loop-field : goal.invariant-loop-field
invariant-loop-field g l = IsPutByHand g.S.Sink {E = SinkFault} l.fn.out l.out (Ok tt) (l.fn.line ++ flat_map (field_text l.told) (take l.field-index l.fields)) l.line
