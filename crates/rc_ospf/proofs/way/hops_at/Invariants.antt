use Rattle.std.proofs.Common.{◌≡◌, ◌++◌, drop}
use Rattle.std.specs.List.{flat_map}
use Rattle.rc_ospf.specs.ByPrefix.{hops_for}
use Rattle.rc_ospf.specs.Members.{reach_of}
use Rattle.rc_ospf.proofs.way.hops_at.Given as goal

abbrev pub invariant-loop-offer : goal.invariant-loop-offer
invariant-loop-offer l = l.hops ++ flat_map (hops_for (reach_of l.member) l.others l.member.router l.cost) (drop l.offer-index l.offers)
    ≡ flat_map (hops_for (reach_of l.member) l.others l.member.router l.cost) l.offers
