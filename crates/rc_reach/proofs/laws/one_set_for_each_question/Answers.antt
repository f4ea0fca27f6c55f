use Rattle.rc_reach.proofs.ReachingLaws as law
use Rattle.rc_reach.proofs.laws.one_set_for_each_question.Goals as goal

pub returns : goal.returns
returns c = λ plane asked these those. law.one_set these those
