use Rattle.rc_router_sets.proofs.MoveLaws as law
use Rattle.rc_router_sets.proofs.laws.an_ending_is_a_move.Goals as goal

pub returns : goal.returns
returns c = law.end_is_move
