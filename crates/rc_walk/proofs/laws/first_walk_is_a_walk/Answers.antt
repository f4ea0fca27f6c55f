use Rattle.rc_walk.proofs.WalkLaws as law
use Rattle.rc_walk.proofs.laws.first_walk_is_a_walk.Goals as goal

pub returns : goal.returns
returns c = law.first_walk_is_a_walk
