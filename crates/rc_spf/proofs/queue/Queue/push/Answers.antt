use Rattle.rc_spf.proofs.Queues.{joins_rising, joins_heap}
use Rattle.rc_spf.proofs.queue.Queue.push.Goals as goal

pub returns-then-branch : goal.returns-then-branch
returns-then-branch c = rw (← c.self.view_is) (joins_rising _ _ _ _ (c.in_ok-push.ensures.put c.if-branch.true))

pub returns : goal.returns
returns c = rw (← c.self.view_is) (joins_heap _ _ _ _ _ (c.in_ok-push.ensures.same c.if-branch.false) c.in_ok-push-2.ensures)
