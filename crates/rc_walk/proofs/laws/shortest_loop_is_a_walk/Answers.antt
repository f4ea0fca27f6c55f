use Rattle.rc_walk.proofs.FoundLaws as laws
use Rattle.rc_walk.proofs.laws.shortest_loop_is_a_walk.Goals as goal

pub returns : goal.returns
returns c = laws.shortest_loop_is_a_walk
