use Rattle.std.proofs.Common.{refl, ◌≡◌, ◌+◌, ◌<◌, length, subst, arith}
use Rattle.rc_ospf.specs.Stays.{StaysIn}
use Rattle.rc_ospf.proofs.MemberLaws.{one_over_next}
use Rattle.rc_ospf.proofs.StayLaws.{stays_at}
use Rattle.rc_ospf.proofs.member.members.Goals as goal

pub invariant_of-push : goal.invariant_of-push
invariant_of-push c =
    let i = c.loop-index.index in
    let own = c.index-areas-index.result in
    let lt : i < length c.args.areas.now = omega (arith, c.loop-index-test.true, c.loop-index.auto.index-end) in
    let same : 0 + i ≡ c.at.result = omega (arith, c.at.ensures) in
    record { stays = subst (λ k. StaysIn c.args.walks.now k own.all) same (stays_at c.args.walks.now 0 c.args.areas.now i own lt c.index-areas-index.is c.requires) }

pub loop-index-preserved : goal.loop-index-preserved
loop-index-preserved c =
    let lt : c.loop-index.index < length c.args.areas.now = omega (arith, c.loop-index-test.true, c.loop-index.auto.index-end) in
    one_over_next c.args.walks.now.table c.args.areas.now c.loop-index.index c.index-areas-index.result c.loop-index.members c.push.new.self _ lt c.index-areas-index.is c.in_ok-push.ensures.ok
    (record { router = c.at.ensures; areas = refl; walks = refl }) c.loop-index.invariant
