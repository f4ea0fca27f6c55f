use Rattle.std.proofs.Common.{refl}
use Rattle.rc_ospf.proofs.FirstHopLaws.{one_more}
use Rattle.rc_ospf.proofs.first_hops.push_any.Goals as goal

pub returns : goal.returns
returns c =
    one_more c.args.member.now c.args.found.now c.end_with.new.self c.push_towards.new.self c.push_towards.result _ _ c.requires c.end_with.ensures.towards c.in_ok-end_with.ensures.last
    c.cost_to-cost.ensures.value c.cost_to-cost.ensures.small c.in_ok-hops.ensures.value c.in_ok-hops.ensures.in_order refl
    c.push_towards.ensures.hops c.push_towards.ensures.towards
