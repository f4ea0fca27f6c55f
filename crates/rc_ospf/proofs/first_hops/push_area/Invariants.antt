use Rattle.rc_ospf.specs.FirstHops.{AreFound}
use Rattle.rc_ospf.proofs.first_hops.push_area.Given as goal

abbrev pub invariant-loop-index : goal.invariant-loop-index
invariant-loop-index l = AreFound l.member l.found
