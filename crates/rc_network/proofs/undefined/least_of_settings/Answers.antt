use Rattle.std.proofs.Common.{◌∙◌, ◌++◌, ap}
use Rattle.rc_network.specs.Undefined.{least_line, named_once}
use Rattle.rc_network.specs.declared.undefined.NamedKind.TheVariants as kind
use Rattle.rc_network.proofs.LeastLaws.{both_parts}
use Rattle.rc_network.proofs.undefined.least_of_settings.Goals as goal

pub returns : goal.returns
returns c =
    let r = c.args.file.now in
    let s = c.args.settings.now in
    let map_in = named_once kind.RouteMap s.map_in in
    let map_out = named_once kind.RouteMap s.map_out in
    let list_in = named_once kind.PrefixList s.list_in in
    let list_out = named_once kind.PrefixList s.list_out in
    let of_map_in = c.least_of_mention-map_in.ensures ∙ ap (λ m. least_line r (named_once kind.RouteMap m)) c.as_ref.ensures.value in
    let of_map_out = c.least_of_mention-map_out.ensures ∙ ap (λ m. least_line r (named_once kind.RouteMap m)) c.as_ref-2.ensures.value in
    let of_list_in = c.least_of_mention-list_in.ensures ∙ ap (λ m. least_line r (named_once kind.PrefixList m)) c.as_ref-3.ensures.value in
    let of_list_out = c.least_of_mention-list_out.ensures ∙ ap (λ m. least_line r (named_once kind.PrefixList m)) c.as_ref-4.ensures.value in
    both_parts r (map_in ++ map_out ++ list_in) list_out c.lower-2.result c.least_of_mention-list_out.result c.lower-3.result
    (both_parts r (map_in ++ map_out) list_in c.lower.result c.least_of_mention-list_in.result c.lower-2.result
    (both_parts r map_in map_out c.least_of_mention-map_in.result c.least_of_mention-map_out.result c.lower.result of_map_in of_map_out c.lower.ensures)
    of_list_in c.lower-2.ensures)
    of_list_out c.lower-3.ensures
