use Rattle.std.proofs.Common.{Ok, take, flat_map}
use Rattle.rc_outside.specs.Put.{IsPut}
use Rattle.rc_report.specs.IdleText.{router_text}
use Rattle.rc_report.specs.declared.put.SinkFault.{SinkFault}
use Rattle.rc_report.proofs.idle.put_routers.Given as goal

abbrev pub invariant-loop-router : goal.invariant-loop-router
invariant-loop-router g l = IsPut g.S.Sink {E = SinkFault} l.fn.out l.out (Ok tt) (flat_map router_text (take l.router-index l.routers))
