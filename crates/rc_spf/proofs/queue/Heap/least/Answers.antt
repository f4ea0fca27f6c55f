use Rattle.rc_spf.proofs.Waiting.{heap_least}
use Rattle.rc_spf.proofs.queue.Heap.least.Goals as goal

pub returns-in-Some : goal.returns-in-Some
returns-in-Some c = rw (← c.self.view_is) (heap_least _ _ (c.in-Some.ensures.greatest c.self.invariant) c.in-Some.ensures.item.3.0 c.in-Some.ensures.lookup)
