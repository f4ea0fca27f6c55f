use Rattle.std.proofs.Common.{Ok, take, flat_map}
use Rattle.rc_outside.specs.Put.{IsPut}
use Rattle.rc_report.specs.FailureText.{failure_line}
use Rattle.rc_report.specs.declared.put.SinkFault.{SinkFault}
use Rattle.rc_report.proofs.failures.put_failures.Given as goal

abbrev pub invariant-loop-row : goal.invariant-loop-row
invariant-loop-row g l = IsPut g.S.Sink {E = SinkFault} l.fn.out l.out (Ok tt) (flat_map (failure_line l.net) (take l.row-index l.rows))
