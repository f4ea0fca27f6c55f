use Rattle.rc_router_sets.proofs.ResultLaws as laws
use Rattle.rc_router_sets.proofs.laws.a_result_is_what_reaches.Goals as goal

pub returns : goal.returns
returns c = λ plane h place ends ok header start. laws.result_is_reaching plane ok h header place start ends
