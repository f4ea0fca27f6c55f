use Rattle.std.proofs.Common.{length}
use Rattle.rc_spf.specs.Waiting.{IsQueue}
use Rattle.rc_spf.proofs.dijkstra.next.Given as goal

abbrev pub invariant-loop-cost : goal.invariant-loop-cost
invariant-loop-cost l = IsQueue l.queue l.costs l.settled

abbrev pub decreases-loop-cost : goal.decreases-loop-cost
decreases-loop-cost l = length l.queue
