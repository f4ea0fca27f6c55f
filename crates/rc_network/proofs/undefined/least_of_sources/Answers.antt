use Rattle.std.proofs.Common.{◌∙◌, ◌++◌, ap}
use Rattle.rc_network.specs.Undefined.{least_line, named_by_ospf, named_by_source}
use Rattle.rc_network.proofs.LeastLaws.{both_parts}
use Rattle.rc_network.proofs.undefined.least_of_sources.Goals as goal

pub returns : goal.returns
returns c =
    let r = c.args.file.now in
    let lines = c.args.lines.now in
    let connected = named_by_source lines.connected in
    let static_routes = named_by_source lines.static_routes in
    let of_connected = c.least_of_source-of_connected.ensures ∙ ap (λ line. least_line r (named_by_source line)) c.as_ref.ensures.value in
    let of_static = c.least_of_source-of_static.ensures ∙ ap (λ line. least_line r (named_by_source line)) c.as_ref-2.ensures.value in
    both_parts r (connected ++ static_routes) (named_by_ospf lines.ospf) c.lower.result c.least_of_ospf-of_ospf.result c.lower-2.result
    (both_parts r connected static_routes c.least_of_source-of_connected.result c.least_of_source-of_static.result c.lower.result of_connected of_static c.lower.ensures)
    c.least_of_ospf-of_ospf.ensures c.lower-2.ensures
