use Rattle.std.proofs.Common.{◌≡◌, drop}
use Rattle.rc_ospf.specs.Members.{reach_of}
use Rattle.rc_ospf.specs.Wanted.{has_inside}
use Rattle.rc_ospf.proofs.summaries.has_inside.Given as goal

abbrev pub invariant-loop-offer : goal.invariant-loop-offer
invariant-loop-offer l = has_inside (reach_of l.member) (drop l.offer-index l.inside) ≡ has_inside (reach_of l.member) l.inside
