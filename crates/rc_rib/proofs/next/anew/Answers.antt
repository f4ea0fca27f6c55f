use Rattle.std.proofs.Common.{refl, sym, subst, []}
use Rattle.rc_route.specs.Tables.{IsRouterState}
use Rattle.rc_rib.proofs.TableLaws.{both_in_order, none_in_order}
use Rattle.rc_rib.proofs.next.anew.Goals as goal

pub returns-in-None-clause-in_order : goal.returns-in-None-clause-in_order
returns-in-None-clause-in_order c = subst IsRouterState (sym c.nothing.ensures) (both_in_order _ (none_in_order [] refl) refl)
