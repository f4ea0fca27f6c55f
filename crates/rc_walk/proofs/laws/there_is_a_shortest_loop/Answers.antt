use Rattle.rc_walk.proofs.FoundLaws as laws
use Rattle.rc_walk.proofs.laws.there_is_a_shortest_loop.Goals as goal

pub returns : goal.returns
returns c = laws.there_is_a_shortest_loop
