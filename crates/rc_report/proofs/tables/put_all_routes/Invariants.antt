use Rattle.std.proofs.Common.{Ok, flat_map, take}
use Rattle.rc_config.specs.Members.{router_ids}
use Rattle.rc_outside.specs.Put.{IsPut}
use Rattle.rc_report.specs.declared.put.SinkFault.{SinkFault}
use Rattle.rc_report.specs.StateText.{routes_in}
use Rattle.rc_report.proofs.tables.put_all_routes.Given as goal

abbrev pub invariant-loop-index : goal.invariant-loop-index
invariant-loop-index g l = IsPut g.S.Sink {E = SinkFault} l.fn.out l.out (Ok tt) (flat_map (routes_in l.net l.state) (take l.index (router_ids l.net)))
