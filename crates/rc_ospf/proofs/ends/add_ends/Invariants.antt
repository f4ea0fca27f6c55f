use Rattle.std.proofs.Common.{◌≡◌, drop}
use Rattle.rc_ospf.specs.Ends.{with_ends}
use Rattle.rc_ospf.proofs.ends.add_ends.Given as goal

abbrev pub invariant-loop-offer : goal.invariant-loop-offer
invariant-loop-offer l = with_ends l.ends (drop l.offer-index l.offers) ≡ with_ends l.initial.ends l.offers
