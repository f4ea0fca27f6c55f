use Rattle.rc_walk.proofs.ShortestLaws as law
use Rattle.rc_walk.proofs.laws.there_is_a_shortest_walk.Goals as goal

pub returns : goal.returns
returns c = law.there_is_a_shortest_walk
