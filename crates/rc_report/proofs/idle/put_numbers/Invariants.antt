use Rattle.std.proofs.Common.{◌++◌, Ok, take, flat_map}
use Rattle.rc_outside.specs.Put.{IsPutByHand}
use Rattle.rc_report.specs.IdleText.{number_behind}
use Rattle.rc_report.specs.declared.put.SinkFault.{SinkFault}
use Rattle.rc_report.proofs.idle.put_numbers.Given as goal

abbrev pub invariant-loop-number : goal.invariant-loop-number
invariant-loop-number g l = IsPutByHand g.S.Sink {E = SinkFault} l.fn.out l.out (Ok tt) (l.fn.line ++ flat_map number_behind (take l.number-index l.numbers)) l.line
