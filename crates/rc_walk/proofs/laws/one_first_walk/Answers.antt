use Rattle.rc_walk.proofs.WalkLaws as law
use Rattle.rc_walk.proofs.laws.one_first_walk.Goals as goal

pub returns : goal.returns
returns c = law.one_first_walk
