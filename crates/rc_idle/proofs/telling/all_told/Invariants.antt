use Rattle.rc_idle.proofs.ListLaws.{AreRoutersSoFar}
use Rattle.rc_idle.proofs.telling.all_told.Given as goal

abbrev pub invariant-loop-index : goal.invariant-loop-index
invariant-loop-index l = AreRoutersSoFar l.network l.index l.left.items l.told
