use Rattle.std.proofs.Common.{◌∙◌, ap, map}
use Rattle.rc_bgp.specs.RouterStates.{table_of}
use Rattle.rc_bgp.proofs.DecidedLaws.{are_edits, edited_is_updated}
use Rattle.rc_ospf.specs.Internal.{routes_of}
use Rattle.rc_pieces.specs.Editing.{edited}
use Rattle.rc_pieces.specs.declared.edit.Edit.{Edit}
use Rattle.rc_route.specs.declared.route.Route.{Route}
use Rattle.rc_rib.specs.Mending.{mended, mended_at, own_routes}
use Rattle.rc_rib.specs.Offers.{prefix_of}
use Rattle.rc_rib.proofs.MendingLaws.{keeps}
use Rattle.rc_rib.proofs.mending.mended_table.Goals as goal

pub returns-clause-value : goal.returns-clause-value
returns-clause-value c =
    let own = own_routes c.args.router c.args.file.now (table_of c.args.inputs.now.previous.now c.args.router) in
    let inside = routes_of c.args.inputs.now.internal.now c.args.router in
    let paths = c.args.paths.now in
    let known = c.known_table-known.result in
    let f = mended_at own paths inside known in
    let kept = keeps own paths inside known in
    let ps = c.args.changed.now in
    let edits = c.in_ok-edits.edits.items in
    let taken = map (λ (e : Edit Route). e.prefix) edits in
    let says = c.in_ok-table.ensures.says (are_edits prefix_of f known ps kept taken edits c.in_ok-edits.ensures) in
    edited_is_updated prefix_of f known ps kept taken edits c.in_ok-edits.ensures c.in_ok-table.table says c.known_table-known.ensures.in_order c.requires.changed
    ∙ ap (λ t. mended own paths inside t ps) c.known_table-known.ensures.value

pub returns-clause-same : goal.returns-clause-same
returns-clause-same c is =
    c.in_ok-table.ensures.list ∙ ap (edited prefix_of c.known_table-known.result) (c.are_none-is_same.ensures is) ∙ c.known_table-known.ensures.value
