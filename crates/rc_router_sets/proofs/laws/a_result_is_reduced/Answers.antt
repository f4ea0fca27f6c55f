use Rattle.rc_router_sets.proofs.ReducedLaws as reduced
use Rattle.rc_router_sets.proofs.laws.a_result_is_reduced.Goals as goal

pub returns : goal.returns
returns c = λ plane place ends ok. reduced.reduced-result plane ok place ends
