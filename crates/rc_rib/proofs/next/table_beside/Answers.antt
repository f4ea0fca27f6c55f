use Rattle.std.proofs.Common.{refl, ◌≡◌, ◌∙◌, ap, ℕ, List, sym, subst}
use Rattle.std.proofs.lemmas.Result.{IfOk-weaker}
use Rattle.rc_bgp.specs.RouterStates.{table_of}
use Rattle.rc_external.specs.Routes.{external_routes}
use Rattle.rc_fib.specs.Forwarding.{resolved}
use Rattle.rc_ospf.specs.Internal.{routes_of}
use Rattle.rc_config.specs.declared.router_text.RouterText.{RouterText}
use Rattle.rc_route.specs.Tables.{IsBestList, IsTable}
use Rattle.rc_route.specs.declared.best.Best.{Best}
use Rattle.rc_route.specs.declared.route.Route.{Route}
use Rattle.rc_rib.specs.Connected.{connected}
use Rattle.rc_rib.specs.Mending.{own_routes}
use Rattle.rc_rib.specs.Merging.{merged}
use Rattle.rc_rib.specs.Next.{candidates, learned_routes, ospf_routes, table_after, to_others}
use Rattle.rc_rib.specs.Static.{active_lines, static_routes}
use Rattle.rc_rib.proofs.BestLaws.{best_is_table}
use Rattle.rc_rib.proofs.ConnectedLaws.{connected_is_table}
use Rattle.rc_rib.proofs.MendingLaws.{merged_in_order, own_in_order}
use Rattle.rc_rib.proofs.OrderLaws.{at_in_order, five_merged, learned_in_order, none_is_table, outside_in_order, static_is_table}
use Rattle.rc_rib.proofs.next.table_beside.Goals as goal

own_and_learned : (r : ℕ) (file : RouterText) (old : List Route) (paths : List Best) → IsBestList paths → IsTable (merged (own_routes r file old) (learned_routes paths))
own_and_learned r file old paths up = merged_in_order (own_routes r file old) (learned_routes paths) (own_in_order r file old (own_routes r file old) refl) (learned_in_order paths up)

pub with_internal-requires-clause-table : goal.with_internal-requires-clause-table
with_internal-requires-clause-table c =
    subst IsTable (sym (c.in_ok-table-2.ensures ∙ ap (λ t. merged t (learned_routes c.args.paths.now)) c.in_ok-table.ensures))
    (own_and_learned c.args.router c.args.file.now (table_of c.args.inputs.now.previous.now c.args.router) c.args.paths.now c.requires.paths)

pub with_internal-requires-clause-routes : goal.with_internal-requires-clause-routes
with_internal-requires-clause-routes c = at_in_order IsTable none_is_table c.args.inputs.now.internal.now.routes c.args.router c.requires.inputs.routes

pub with_outside-requires-clause-table : goal.with_outside-requires-clause-table
with_outside-requires-clause-table c =
    let r = c.args.router in
    let old = table_of c.args.inputs.now.previous.now r in
    let inside = routes_of c.args.inputs.now.internal.now r in
    let learned = learned_routes c.args.paths.now in
    let before = c.in_ok-table-2.ensures ∙ ap (λ t. merged t learned) c.in_ok-table.ensures in
    subst IsTable (sym (c.in_ok-table-3.ensures ∙ ap (λ t. merged t inside) before))
    (merged_in_order (merged (own_routes r c.args.file.now old) learned) inside (own_and_learned r c.args.file.now old c.args.paths.now c.requires.paths)
    (at_in_order IsTable none_is_table c.args.inputs.now.internal.now.routes r c.requires.inputs.routes))

pub returns-clause-value : goal.returns-clause-value
returns-clause-value c =
    let r = c.args.router in
    let inputs = c.args.inputs.now in
    let internal = inputs.internal.now in
    let entries = c.args.file.now.interfaces in
    let old = table_of inputs.previous.now r in
    let own : List Route = connected r entries in
    let active : List Route = static_routes (active_lines r entries (resolved old) c.args.file.now.static_routes) in
    let learned : List Route = learned_routes c.args.paths.now in
    let inside : List Route = routes_of internal r in
    let outside : List Route = to_others internal r (external_routes internal inputs.externals.now r) in
    let before = c.in_ok-table-3.ensures ∙ ap (λ t. merged t inside) (c.in_ok-table-2.ensures ∙ ap (λ t. merged t learned) c.in_ok-table.ensures) in
    let all =
    five_merged own active learned inside outside (connected_is_table r entries) (static_is_table _) (learned_in_order c.args.paths.now c.requires.paths)
    (at_in_order IsTable none_is_table internal.routes r c.requires.inputs.routes) (outside_in_order internal inputs.externals.now r c.requires.inputs.by_prefix) in
    IfOk-weaker _ _ (λ table. table ≡ table_after r c.args.file.now learned (ospf_routes internal inputs.externals.now r) old) (λ table is. is ∙ ap (λ t. merged t outside) before ∙ all) c.with_outside.ensures

pub returns-clause-in_order : goal.returns-clause-in_order
returns-clause-in_order c =
    let r = c.args.router in
    let inputs = c.args.inputs.now in
    let internal = inputs.internal.now in
    IfOk-weaker _ _ IsTable
    (λ table is. subst IsTable (sym is) (best_is_table (candidates r c.args.file.now (learned_routes c.args.paths.now) (ospf_routes internal inputs.externals.now r) (table_of inputs.previous.now r)))) (returns-clause-value c)
