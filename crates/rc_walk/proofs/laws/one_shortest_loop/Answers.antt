use Rattle.rc_walk.proofs.FoundLaws as laws
use Rattle.rc_walk.proofs.laws.one_shortest_loop.Goals as goal

pub returns : goal.returns
returns c = laws.one_shortest_loop
