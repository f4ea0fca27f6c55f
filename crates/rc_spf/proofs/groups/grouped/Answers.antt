use Rattle.std.proofs.Common.{refl}
use Rattle.rc_spf.proofs.Grouping.{grouped_turn}
use Rattle.rc_spf.proofs.groups.grouped.Goals as goal

pub loop-edge-preserved : goal.loop-edge-preserved
loop-edge-preserved c = grouped_turn _ _ _ _ c.push.new.self c.index_mut.result.now c.args.nodes _
    c.loop-edge-test.true c.loop-edge.invariant c.requires refl c.index_mut.ensures.value c.in_ok-push.ensures.items
