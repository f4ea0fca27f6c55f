use Rattle.std.proofs.Common.{Ok, take, flat_map}
use Rattle.rc_outside.specs.Put.{IsPut}
use Rattle.rc_report.specs.WalkText.{position_line}
use Rattle.rc_report.specs.declared.put.SinkFault.{SinkFault}
use Rattle.rc_report.proofs.walks.put_positions.Given as goal

abbrev pub invariant-loop-position : goal.invariant-loop-position
invariant-loop-position g l = IsPut g.S.Sink {E = SinkFault} l.fn.out l.out (Ok tt) (flat_map (position_line l.net) (take l.position-index l.positions))
