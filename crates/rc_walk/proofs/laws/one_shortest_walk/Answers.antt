use Rattle.rc_walk.proofs.ShortestLaws as law
use Rattle.rc_walk.proofs.laws.one_shortest_walk.Goals as goal

pub returns : goal.returns
returns c = law.one_shortest_walk
