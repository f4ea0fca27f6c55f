use Rattle.std.proofs.Common.{refl}
use Rattle.rc_ospf.proofs.FirstHopLaws.{last_already, last_now}
use Rattle.rc_ospf.proofs.first_hops.FoundHops.end_with.Goals as goal

pub returns-then-ends_with-clause-last : goal.returns-then-ends_with-clause-last
returns-then-ends_with-clause-last c = last_already _ _ _ refl (c.ends_with.ensures c.if-ends_with.true)

pub returns-clause-last : goal.returns-clause-last
returns-clause-last c = last_now _ _ _ c.push_hops.result c.push_hops.ensures.hops
