use Rattle.std.proofs.lemmas.List.Sorted.{IsPermutation-map}
use Rattle.rc_spf.proofs.Waiting.{least_of}
use Rattle.rc_spf.proofs.queue.Heap.pop.Goals as goal

pub returns-in-Some-clause-rest : goal.returns-in-Some-clause-rest
returns-in-Some-clause-rest c = rw (← c.self.view_is) (IsPermutation-map (λ w. w.0) _ _ c.in-Some.ensures.permutation)

pub returns-in-Some-clause-least : goal.returns-in-Some-clause-least
returns-in-Some-clause-least c = rw (← c.self.view_is) (least_of _ _ (c.in-Some.ensures.heap_order c.self.invariant).1)
