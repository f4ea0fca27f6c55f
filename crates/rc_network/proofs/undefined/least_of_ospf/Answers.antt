use Rattle.std.proofs.Common.{◌∙◌, ap}
use Rattle.rc_config.specs.declared.bgp.OspfRedistribution.{OspfRedistribution}
use Rattle.rc_network.specs.Undefined.{least_line, named_by_ospf, named_once}
use Rattle.rc_network.specs.declared.undefined.NamedKind.TheVariants as kind
use Rattle.rc_network.proofs.LeastLaws.{left-part}
use Rattle.rc_network.proofs.undefined.least_of_ospf.Goals as goal

pub loop-line-preserved : goal.loop-line-preserved
loop-line-preserved c =
    left-part c.args.file.now (λ (line : OspfRedistribution). named_once kind.RouteMap line.redistribution.route_map) c.loop-line.least c.least_of_mention.result c.lower-least.result
    (least_line c.args.file.now (named_by_ospf c.args.lines.now)) c.loop-line.line-iterator c.next.new.self c.in-Some.line.now c.in-Some.ensures.steps
    (c.least_of_mention.ensures ∙ ap (λ m. least_line c.args.file.now (named_once kind.RouteMap m)) c.as_ref-mention.ensures.value) c.lower-least.ensures c.loop-line.invariant
