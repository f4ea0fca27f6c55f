use Rattle.std.proofs.Common.{◌≡◌, ◌∙◌, ap, map, subst, sym}
use Rattle.std.proofs.lemmas.Result.{IfOk-weaker}
use Rattle.rc_route.specs.Tables.{IsTable}
use Rattle.rc_rib.specs.Connected.{connected}
use Rattle.rc_rib.specs.Offers.{route_of_members}
use Rattle.rc_rib.proofs.ConnectedLaws.{routes_of_index, connected_is_table}
use Rattle.rc_rib.proofs.connected_routes.connected.Goals as goal

pub returns-clause-value : goal.returns-clause-value
returns-clause-value c =
    let rows = c.into_rows.ensures ∙ c.in_ok-index.ensures in
    let all = ap (map (λ row. route_of_members row.0 row.1)) rows ∙ routes_of_index c.args.router c.args.file.now.interfaces in
    IfOk-weaker _ _ (λ routes. routes ≡ connected c.args.router c.args.file.now.interfaces) (λ routes made. made ∙ all) c.routes_of_rows.ensures

pub returns-clause-in_order : goal.returns-clause-in_order
returns-clause-in_order c = IfOk-weaker _ _ IsTable (λ routes made. subst IsTable (sym made) (connected_is_table c.args.router c.args.file.now.interfaces)) (returns-clause-value c)
