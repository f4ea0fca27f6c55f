use Rattle.std.proofs.Common.{rules, ◌≡◌, ◌<◌, ◌++◌, length, arith}
use Rattle.rc_bgp.specs.Speakers.{addresses_at}
use Rattle.rc_bgp.proofs.RangeLaws.{some_more}
use Rattle.rc_bgp.proofs.own_addresses.router_addresses.Goals as goal

pub loop-index-preserved : goal.loop-index-preserved
loop-index-preserved c =
    let i = c.loop-index.index in
    let n = length c.args.file.now.interfaces in
    let lt : i < n = omega (arith, c.loop-index-test.true, c.loop-index.auto.index-end, c.len-index-end.ensures) in
    let more : c.add_interface.new.own ≡ c.loop-index.own ++ addresses_at c.args.router c.args.file.now.interfaces i = search rules in
    some_more (addresses_at c.args.router c.args.file.now.interfaces) c.loop-index.own c.add_interface.new.own _ i n lt more c.loop-index.invariant
