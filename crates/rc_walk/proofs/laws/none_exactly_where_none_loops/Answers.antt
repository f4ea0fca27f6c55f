use Rattle.rc_walk.proofs.FoundLaws as laws
use Rattle.rc_walk.proofs.laws.none_exactly_where_none_loops.Goals as goal

pub returns : goal.returns
returns c = laws.none_loops
