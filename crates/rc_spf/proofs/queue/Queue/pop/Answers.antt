use Rattle.rc_spf.proofs.Queues.{leaves_heap_if, fewer_in_heap}
use Rattle.rc_spf.proofs.queue.Queue.pop.Goals as goal

pub returns-clause-rest : goal.returns-clause-rest
returns-clause-rest c = rw (← c.self.view_is) (leaves_heap_if _ _ _ c.pop-2.result c.pop-2.ensures.rest)

pub returns-clause-len : goal.returns-clause-len
returns-clause-len c = rw (← c.self.view_is) (fewer_in_heap _ _ _ c.pop-2.result c.pop-2.ensures.rest)
