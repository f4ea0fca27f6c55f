use Rattle.std.proofs.lemmas.Result.{IfOk-weaker}
use Rattle.rc_route.specs.Tables.{IsTable}
use Rattle.rc_rib.proofs.OrderLaws.{others_in_order}
use Rattle.rc_rib.proofs.outside.outside_routes.Goals as goal

pub returns-clause-in_order : goal.returns-clause-in_order
returns-clause-in_order c =
    IfOk-weaker _ _ IsTable (λ others is. others_in_order c.args.internal.now c.args.router c.in_ok-routes.routes others is c.in_ok-routes.ensures.in_order) c.to_others.ensures
