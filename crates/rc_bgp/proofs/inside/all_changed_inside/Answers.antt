use Rattle.std.proofs.Common.{rules, ◌≡◌, ◌<◌, ◌++◌, [], ◌∷◌, length, arith}
use Rattle.rc_bgp.specs.Changes.{changed_inside_at}
use Rattle.rc_bgp.proofs.RangeLaws.{one_mapped}
use Rattle.rc_bgp.proofs.inside.all_changed_inside.Goals as goal

pub loop-index-preserved : goal.loop-index-preserved
loop-index-preserved c =
    let i = c.loop-index.index in
    let n = length c.args.changes.now in
    let f = changed_inside_at c.args.sessions.now c.args.changes.now c.args.earlier.now c.args.previous.now in
    let lt : i < n = omega (arith, c.loop-index-test.true, c.loop-index.auto.index-end, c.len-index-end.ensures) in
    let more : c.push.new.self ≡ c.loop-index.inside ++ f i ∷ [] = search rules in
    one_mapped f c.loop-index.inside c.push.new.self _ i n lt more c.loop-index.invariant
