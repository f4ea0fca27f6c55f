use Rattle.std.proofs.Common.{◌++◌, Ok, length}
use Rattle.rc_outside.specs.Put.{IsPutByHand}
use Rattle.rc_report.specs.declared.put.SinkFault.{SinkFault}
use Rattle.rc_report.proofs.put.put_pieces.Given as goal

abbrev pub invariant-loop-rest : goal.invariant-loop-rest
invariant-loop-rest g l = IsPutByHand g.S.Sink {E = SinkFault} l.fn.out l.out (Ok tt) (l.fn.line ++ l.bytes) (l.line ++ l.rest)

abbrev pub decreases-loop-rest : goal.decreases-loop-rest
decreases-loop-rest g l = length l.rest
