use Rattle.std.proofs.Common.{flat_map, arith}
use Rattle.rc_outside.proofs.PutLaws.{each_hand, each_hand_stopped}
use Rattle.rc_report.specs.Parts.{part_text}
use Rattle.rc_report.specs.RouteText.{hop_text}
use Rattle.rc_report.proofs.routes.put_hops.Goals as goal

pub returns-in_err-put_parts : goal.returns-in_err-put_parts
returns-in_err-put_parts g c =
    let parts = flat_map part_text c.hop_parts-parts.result in
    each_hand_stopped (hop_text c.args.net.now) c.args.hops.now c.loop-hop.hop-index c.hop-item.result c.args.line.now parts _ c.from_residual.ensures.0 (omega arith) c.hop-item.is c.hop_parts-parts.ensures c.loop-hop.invariant c.in_err-put_parts.ensures

pub loop-hop-preserved : goal.loop-hop-preserved
loop-hop-preserved g c =
    let parts = flat_map part_text c.hop_parts-parts.result in
    each_hand (hop_text c.args.net.now) c.args.hops.now c.loop-hop.hop-index c.hop-item.result c.args.line.now parts (omega arith) c.hop-item.is c.hop_parts-parts.ensures c.loop-hop.invariant c.in_ok-put_parts.ensures
