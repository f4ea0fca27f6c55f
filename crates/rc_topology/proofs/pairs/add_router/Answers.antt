use Rattle.rc_topology.proofs.PairLaws.{ids_more}
use Rattle.rc_topology.proofs.pairs.add_router.Goals as goal

pub loop-index-preserved : goal.loop-index-preserved
loop-index-preserved c = ids_more c.args.all.now c.loop-index.all _ c.args.router c.loop-index.index c.loop-index.invariant c.in_ok-push.ensures.ok
