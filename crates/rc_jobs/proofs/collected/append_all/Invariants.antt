use Rattle.rc_jobs.proofs.CollectLaws.{AreAppendedTo}
use Rattle.rc_jobs.proofs.collected.append_all.Given as goal

abbrev pub invariant-loop-index : goal.invariant-loop-index
invariant-loop-index l = AreAppendedTo l.fn.into.items l.more l.into.items l.index
