use Rattle.std.proofs.Common.{◌≡◌, ◌∙◌, ◌++◌, ap, sym, subst}
use Rattle.std.proofs.lemmas.Result.{IfOk-weaker}
use Rattle.rc_route.specs.Tables.{IsTable}
use Rattle.rc_rib.specs.Best.{best_routes}
use Rattle.rc_rib.specs.Connected.{connected}
use Rattle.rc_rib.specs.Merging.{merged}
use Rattle.rc_rib.proofs.BestLaws.{best_is_table}
use Rattle.rc_rib.proofs.ConnectedLaws.{connected_is_table}
use Rattle.rc_rib.proofs.MergingLaws.{two_merged}
use Rattle.rc_rib.proofs.lone.connected_over.Goals as goal

pub returns-clause-value : goal.returns-clause-value
returns-clause-value c =
    let own = connected c.args.router c.args.file.now.interfaces in
    let routes = c.args.routes.now in
    IfOk-weaker _ _ (λ table. table ≡ best_routes (own ++ routes))
    (λ table is. is ∙ ap (λ t. merged t routes) c.in_ok-connected.ensures.value ∙ two_merged own routes (connected_is_table c.args.router c.args.file.now.interfaces) c.requires) c.laid_over.ensures

pub returns-clause-in_order : goal.returns-clause-in_order
returns-clause-in_order c =
    IfOk-weaker _ _ IsTable (λ table is. subst IsTable (sym is) (best_is_table (connected c.args.router c.args.file.now.interfaces ++ c.args.routes.now))) (returns-clause-value c)
