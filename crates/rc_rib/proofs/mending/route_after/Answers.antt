use Rattle.std.proofs.Common.{refl, sym, subst, IfSome}
use Rattle.rc_bgp.specs.RouterStates.{table_of}
use Rattle.rc_route.specs.Tables.{IsTable}
use Rattle.rc_rib.proofs.MendingLaws.{own_in_order}
use Rattle.rc_rib.proofs.OrderLaws.{at_in_order, none_is_table}
use Rattle.rc_rib.proofs.mending.route_after.Goals as goal

pub of_all-requires-clause-own : goal.of_all-requires-clause-own
of_all-requires-clause-own c = subst (λ o. IfSome o IsTable) (sym c.in_ok-make_own-in-Some.ensures) (own_in_order c.args.router c.args.file.now (table_of c.args.inputs.now.previous.now c.args.router) _ refl)

pub of_all-requires-clause-inside : goal.of_all-requires-clause-inside
of_all-requires-clause-inside c = subst IsTable (sym c.routes_of.ensures) (at_in_order IsTable none_is_table c.args.inputs.now.internal.now.routes c.args.router c.requires.inputs.routes)
