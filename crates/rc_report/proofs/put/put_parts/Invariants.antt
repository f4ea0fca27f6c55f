use Rattle.std.proofs.Common.{◌++◌, Ok, take, flat_map}
use Rattle.rc_outside.specs.Put.{IsPutByHand}
use Rattle.rc_report.specs.Parts.{part_text}
use Rattle.rc_report.specs.declared.put.SinkFault.{SinkFault}
use Rattle.rc_report.proofs.put.put_parts.Given as goal

abbrev pub invariant-loop-part : goal.invariant-loop-part
invariant-loop-part g l = IsPutByHand g.S.Sink {E = SinkFault} l.fn.out l.out (Ok tt) (l.fn.line ++ flat_map part_text (take l.part-index l.parts)) l.line
