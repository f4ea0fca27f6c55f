use Rattle.std.proofs.Common.{Ok, take, flat_map}
use Rattle.rc_outside.specs.Put.{IsPut}
use Rattle.rc_report.specs.WalkText.{walk_text}
use Rattle.rc_report.specs.declared.put.SinkFault.{SinkFault}
use Rattle.rc_report.proofs.cubes.put_walks.Given as goal

abbrev pub invariant-loop-walk : goal.invariant-loop-walk
invariant-loop-walk g l = IsPut g.S.Sink {E = SinkFault} l.fn.out l.out (Ok tt) (flat_map (walk_text l.net) (take l.walk-index l.walks))
