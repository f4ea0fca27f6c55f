use Rattle.rc_walk.proofs.ShortestLaws as law
use Rattle.rc_walk.proofs.laws.shortest_walk_is_a_walk.Goals as goal

pub returns : goal.returns
returns c = law.shortest_walk_is_a_walk
