use Rattle.std.proofs.Common.{◌∙◌, ap, sym, subst}
use Rattle.rc_fib.specs.Forwarding.{resolved}
use Rattle.rc_route.specs.Tables.{IsTable}
use Rattle.rc_rib.specs.Static.{static_routes}
use Rattle.rc_rib.proofs.OrderLaws.{none_is_table}
use Rattle.rc_rib.proofs.StaticLaws.{none_asks}
use Rattle.rc_rib.proofs.next.routes_of_lines.Goals as goal

pub routes_from-requires : goal.routes_from-requires
routes_from-requires c = subst IsTable (sym c.none.ensures) none_is_table

pub returns : goal.returns
returns c =
    let file = c.args.file.now in
    c.in_ok-routes.ensures ∙ ap static_routes (none_asks c.args.router file.interfaces (resolved c.none.result) (resolved c.args.old.now) file.static_routes c.requires)
