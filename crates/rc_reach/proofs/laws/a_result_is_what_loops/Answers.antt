use Rattle.rc_reach.proofs.LoopLaws as laws
use Rattle.rc_reach.proofs.laws.a_result_is_what_loops.Goals as goal

pub returns : goal.returns
returns c = λ plane h q ok header there. laws.looping_is_loop plane ok h header q there
