use Rattle.std.proofs.Common.{◌≡◌, ◌++◌, ◌∙◌, sym, ap, drop, [], arith}
use Rattle.std.proofs.lemmas.List.{drop_all, append-nil}
use Rattle.std.proofs.lemmas.Result.{IfOk-weaker}
use Rattle.std.specs.List.{flat_map}
use Rattle.std.specs.Ordering.{nat_cmp}
use Rattle.rc_base.specs.Lists.{in_order}
use Rattle.rc_route.specs.Hops.{hop_cmp}
use Rattle.rc_route.specs.Ways as spec
use Rattle.rc_ospf.specs.ByPrefix.{hops_for, ways_of}
use Rattle.rc_ospf.specs.Members.{reach_of}
use Rattle.rc_ospf.proofs.WayLaws.{hops_are}
use Rattle.rc_ospf.proofs.way.hops_at.Goals as goal

pub returns : goal.returns
returns c =
    let m = c.args.member.now in
    let f = hops_for (reach_of m) c.args.others m.router c.args.cost in
    let none : drop c.loop-offer.offer-index c.args.offers.now ≡ [] = drop_all c.loop-offer.offer-index c.args.offers.now (omega (arith, c.loop-offer-test.false)) in
    let all : c.loop-offer.hops ≡ flat_map f c.args.offers.now = sym (append-nil c.loop-offer.hops) ∙ sym (ap (λ os. c.loop-offer.hops ++ flat_map f os) none) ∙ c.loop-offer.invariant in
    IfOk-weaker _ _ (λ hops. hops ≡ in_order hop_cmp (spec.hops_at nat_cmp c.args.cost (ways_of (reach_of m) c.args.others m.router c.args.offers.now)))
    (λ hops made. made ∙ ap (in_order hop_cmp) (all ∙ hops_are (reach_of m) c.args.others m.router c.args.cost c.args.offers.now)) c.put_in_order.ensures
