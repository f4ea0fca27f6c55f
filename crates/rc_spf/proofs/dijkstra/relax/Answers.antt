use Rattle.rc_spf.proofs.Relaxing.{skip_more, follow_more}
use Rattle.rc_spf.proofs.Waiting.{still_further}
use Rattle.rc_spf.proofs.dijkstra.relax.Goals.{then-edge-node+in_ok-improve, else-edge-node}
use Rattle.rc_spf.proofs.dijkstra.relax.Goals as goal

pub loop-edge-preserved : goal.loop-edge-preserved
loop-edge-preserved c = elim c.if-edge-node.branch [
  | then-edge-node+in_ok-improve w ↦ (
    follow_more _ _ _ _ _ _ _ _ _ c.loop-edge-test.true c.loop-edge.invariant.0 w.if-edge-node.true w.in_ok-improve.ensures.costs w.costs-is,
    rw (w.queue-is, w.costs-is) (still_further _ _ _ _ _ _ c.loop-edge.invariant.1 w.in_ok-improve.ensures.queue),
  )
  | else-edge-node w ↦ (
    skip_more _ _ _ _ _ _ _ _ c.loop-edge-test.true c.loop-edge.invariant.0 w.if-edge-node.false w.costs-is,
    rw (w.queue-is, w.costs-is) c.loop-edge.invariant.1,
  )
]
