use Rattle.std.proofs.lemmas.List.Sorted.{IsPermutation-map}
use Rattle.rc_spf.proofs.queue.Heap.push.Goals as goal

pub returns : goal.returns
returns c = rw (← c.self.view_is) (IsPermutation-map (λ w. w.0) _ _ c.in_ok-push.ensures.permutation)
