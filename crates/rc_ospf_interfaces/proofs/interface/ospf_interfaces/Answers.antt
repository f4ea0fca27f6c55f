use Rattle.std.proofs.Common.{rules, ◌≡◌, ◌<◌, ◌++◌, length, arith}
use Rattle.rc_ospf_interfaces.specs.Interfaces.{interfaces_at}
use Rattle.rc_ospf_interfaces.proofs.RangeLaws.{some_more}
use Rattle.rc_ospf_interfaces.proofs.interface.ospf_interfaces.Goals as goal

pub loop-index-preserved : goal.loop-index-preserved
loop-index-preserved c =
    let i = c.loop-index.index in
    let n = length c.args.net.now.routers in
    let lt : i < n = omega (arith, c.loop-index-test.true, c.loop-index.auto.index-end, c.len-index-end.ensures) in
    let more : c.add_router.new.all ≡ c.loop-index.all ++ interfaces_at c.args.net.now i = search rules in
    some_more (interfaces_at c.args.net.now) c.loop-index.all c.add_router.new.all _ i n lt more c.loop-index.invariant
