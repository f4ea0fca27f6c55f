use Rattle.std.proofs.Common.{Ok, take, flat_map}
use Rattle.rc_outside.specs.Put.{IsPut}
use Rattle.rc_report.specs.IdleText.{idle_line}
use Rattle.rc_report.specs.declared.put.SinkFault.{SinkFault}
use Rattle.rc_report.proofs.idle.put_idle_lines.Given as goal

abbrev pub invariant-loop-idle : goal.invariant-loop-idle
invariant-loop-idle g l = IsPut g.S.Sink {E = SinkFault} l.fn.out l.out (Ok tt) (flat_map (idle_line l.filter) (take l.idle-index l.lines))
