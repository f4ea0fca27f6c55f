use Rattle.std.proofs.Common.{sym, subst}
use Rattle.std.specs.List.Sorted.{IsStrictlySortedBy}
use Rattle.rc_route.specs.Hops.{hop_cmp}
use Rattle.rc_ospf.proofs.BestLaws.{none_rise}
use Rattle.rc_ospf.proofs.way.hops_for.Goals as goal

pub returns-else-found-cost-clause-in_order : goal.returns-else-found-cost-clause-in_order
returns-else-found-cost-clause-in_order c = subst (IsStrictlySortedBy hop_cmp) (sym c.none.ensures) none_rise

pub returns-in-None-clause-in_order : goal.returns-in-None-clause-in_order
returns-in-None-clause-in_order c = subst (IsStrictlySortedBy hop_cmp) (sym c.none-in-None.ensures) none_rise
