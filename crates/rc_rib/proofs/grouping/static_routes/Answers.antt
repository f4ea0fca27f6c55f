use Rattle.std.proofs.Common.{◌≡◌, ◌∙◌, ap, map}
use Rattle.std.proofs.lemmas.Result.{IfOk-weaker}
use Rattle.rc_rib.specs.Offers.{route_of_hops}
use Rattle.rc_rib.specs.Static.{static_routes}
use Rattle.rc_rib.proofs.StaticLaws.{routes_of_lines}
use Rattle.rc_rib.proofs.grouping.static_routes.Goals as goal

pub returns : goal.returns
returns c =
    let rows = c.into_rows.ensures ∙ c.in_ok-rows.ensures in
    let all = ap (map (λ row. route_of_hops row.0 row.1)) rows ∙ routes_of_lines c.args.lines.now in
    IfOk-weaker _ _ (λ routes. routes ≡ static_routes c.args.lines.now) (λ routes made. made ∙ all) c.routes_of_rows.ensures
