use Rattle.std.proofs.Common.{sym, ◌∙◌, ap}
use Rattle.rc_ospf.specs.BestOffers.{hops_to}
use Rattle.rc_ospf.specs.Members.{reach_of}
use Rattle.rc_ospf.proofs.BestLaws.{kept_alone}
use Rattle.rc_ospf.proofs.best.kept_hops.Goals as goal

pub returns-in-Some : goal.returns-in-Some
returns-in-Some c others has =
    kept_alone _ c.hops_kept.result _ _ c.hops_kept.ensures (ap (hops_to (reach_of c.args.first.now)) c.in-Some.ensures.lookup.1 ∙ sym (has.alone c.if-best.true c.in-Some.offer.now))
