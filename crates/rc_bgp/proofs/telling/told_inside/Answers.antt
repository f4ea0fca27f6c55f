use Rattle.std.proofs.Common.{rules, ◌≡◌, ◌<◌, ◌++◌, [], ◌∷◌, length, arith}
use Rattle.rc_bgp.specs.Telling.{listed_of}
use Rattle.rc_bgp.proofs.RangeLaws.{one_mapped}
use Rattle.rc_bgp.proofs.telling.told_inside.Goals as goal

pub loop-index-preserved : goal.loop-index-preserved
loop-index-preserved c =
    let i = c.loop-index.index in
    let n = length c.args.sessions.now in
    let lt : i < n = omega (arith, c.loop-index-test.true, c.loop-index.auto.index-end, c.len-index-end.ensures) in
    let more : c.push.new.self ≡ c.loop-index.all ++ listed_of c.args.sessions.now c.args.state.now i ∷ [] = search rules in
    one_mapped (listed_of c.args.sessions.now c.args.state.now) c.loop-index.all c.push.new.self _ i n lt more c.loop-index.invariant
