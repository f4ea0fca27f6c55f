use Rattle.std.proofs.Common.{sym, ◌∙◌, ap}
use Rattle.rc_ospf.specs.BestOffers.{hops_to}
use Rattle.rc_ospf.specs.Members.{reach_of}
use Rattle.rc_ospf.proofs.BestLaws.{hops_alone}
use Rattle.rc_ospf.proofs.best.best_hops.Goals as goal

pub bounds-offers-best : goal.bounds-offers-best
bounds-offers-best c = c.requires.within

pub returns-then-best : goal.returns-then-best
returns-then-best c =
    let m = c.args.member.now in
    hops_alone c.hops_to.result _ _ c.hops_to.ensures.value c.hops_to.ensures.in_order
    (ap (hops_to (reach_of m)) c.index-offers-best.is ∙ sym (c.requires.alone c.if-best.true c.index-offers-best.result))
