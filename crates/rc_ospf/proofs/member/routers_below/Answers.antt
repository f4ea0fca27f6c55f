use Rattle.std.proofs.Common.{rules, ◌≡◌, ◌<◌, ◌++◌, ◌∷◌, [], arith}
use Rattle.rc_ospf_interfaces.proofs.RangeLaws.{range_more}
use Rattle.rc_ospf.proofs.member.routers_below.Goals as goal

pub loop-index-preserved : goal.loop-index-preserved
loop-index-preserved c =
    let i = c.loop-index.index in
    let n = c.args.routers in
    let lt : i < n = omega (arith, c.loop-index-test.true, c.loop-index.auto.index-end) in
    let more : c.push.new.self ≡ c.loop-index.ids ++ i ∷ [] = search rules in
    range_more c.loop-index.ids c.push.new.self _ i n lt more c.loop-index.invariant
