use Rattle.std.proofs.Common.{rules, ◌≡◌, ◌<◌, ◌++◌, length, arith}
use Rattle.rc_external.specs.Origination.{sent_by_router}
use Rattle.rc_external.proofs.RangeLaws.{some_more}
use Rattle.rc_external.proofs.sending.all_sent.Goals as goal

pub loop-index-preserved : goal.loop-index-preserved
loop-index-preserved c =
    let i = c.loop-index.index in
    let n = length c.args.net.now.routers in
    let lt : i < n = omega (arith, c.loop-index-test.true, c.loop-index.auto.index-end, c.len-index-end.ensures) in
    let more : c.add_router.new.all ≡ c.loop-index.all ++ sent_by_router c.args.net.now c.args.state.now i = search rules in
    some_more (sent_by_router c.args.net.now c.args.state.now) c.loop-index.all c.add_router.new.all _ i n lt more c.loop-index.invariant
