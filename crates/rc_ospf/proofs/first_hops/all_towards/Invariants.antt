use Rattle.rc_ospf.specs.FirstHops.{AreFound}
use Rattle.rc_ospf.proofs.first_hops.all_towards.Given as goal

abbrev pub invariant-loop-own : goal.invariant-loop-own
invariant-loop-own l = AreFound l.member l.found
