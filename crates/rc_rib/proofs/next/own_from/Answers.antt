use Rattle.std.proofs.Common.{◌≡◌, ◌∙◌, sym, subst, IfOk}
use Rattle.rc_fib.specs.Forwarding.{resolved}
use Rattle.rc_route.specs.Tables.{IsTable}
use Rattle.rc_rib.specs.Connected.{connected}
use Rattle.rc_rib.specs.Merging.{merged}
use Rattle.rc_rib.specs.Static.{active_lines, static_routes}
use Rattle.rc_rib.proofs.OrderLaws.{none_is_table, table_is}
use Rattle.rc_rib.proofs.next.own_from.Goals as goal

pub own_routes-requires-in-None : goal.own_routes-requires-in-None
own_routes-requires-in-None c = subst IsTable (sym c.none.ensures) none_is_table

pub returns-in-Some : goal.returns-in-Some
returns-in-Some c =
    let entries = c.args.file.now.interfaces in
    subst (λ t. IfOk c.own_routes.result (λ table. table ≡ merged (connected c.args.router entries) (static_routes (active_lines c.args.router entries (resolved t) c.args.file.now.static_routes))))
    (c.table.ensures ∙ table_is c.args.state.now c.args.router c.in-Some.known.now c.in-Some.ensures) c.own_routes.ensures
