use Rattle.rc_spf.proofs.Waiting.{waits_in_range, taken, skipped, open_at, settled_at}
use Rattle.rc_spf.proofs.dijkstra.next.Goals as goal

pub bounds-settled-node : goal.bounds-settled-node
bounds-settled-node c = waits_in_range _ _ _ _ _ _ c.requires.len c.loop-cost.invariant c.in-Some.ensures.rest

pub returns-then-not-settled-node : goal.returns-then-not-settled-node
returns-then-not-settled-node c = taken _ _ _ _ _ _ c.loop-cost.invariant c.in-Some.ensures.rest c.in-Some.ensures.least
    (open_at _ _ _ (waits_in_range _ _ _ _ _ _ c.requires.len c.loop-cost.invariant c.in-Some.ensures.rest) c.if-not-settled-node.true)

pub loop-cost-preserved : goal.loop-cost-preserved
loop-cost-preserved c = skipped _ _ _ _ _ _ c.loop-cost.invariant c.in-Some.ensures.rest
    (settled_at _ _ _ (waits_in_range _ _ _ _ _ _ c.requires.len c.loop-cost.invariant c.in-Some.ensures.rest) c.if-not-settled-node.false)
