use Rattle.std.proofs.Common.{Ok, flat_map, take}
use Rattle.rc_outside.specs.Put.{IsPut}
use Rattle.rc_report.specs.declared.put.SinkFault.{SinkFault}
use Rattle.rc_writing.proofs.lines.put_usage.Given as goal

abbrev pub invariant-loop-text : goal.invariant-loop-text
invariant-loop-text g l = IsPut g.S.Sink {E = SinkFault} l.fn.out l.out (Ok tt) (flat_map (λ t. t.now) (take l.text-index l.text-items))
