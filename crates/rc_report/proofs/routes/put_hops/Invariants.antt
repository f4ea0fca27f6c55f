use Rattle.std.proofs.Common.{◌++◌, Ok, take, flat_map}
use Rattle.rc_outside.specs.Put.{IsPutByHand}
use Rattle.rc_report.specs.RouteText.{hop_text}
use Rattle.rc_report.specs.declared.put.SinkFault.{SinkFault}
use Rattle.rc_report.proofs.routes.put_hops.Given as goal

abbrev pub invariant-loop-hop : goal.invariant-loop-hop
invariant-loop-hop g l = IsPutByHand g.S.Sink {E = SinkFault} l.fn.out l.out (Ok tt) (l.fn.line ++ flat_map (hop_text l.net) (take l.hop-index l.hops)) l.line
