use Rattle.rc_idle.proofs.ListLaws.{AreToldSoFar}
use Rattle.rc_idle.proofs.telling.lists_told.Given as goal

abbrev pub invariant-loop-index : goal.invariant-loop-index
invariant-loop-index l = AreToldSoFar l.lists l.index l.fn.left.items l.left.items l.told
