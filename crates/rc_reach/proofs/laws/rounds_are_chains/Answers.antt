use Rattle.rc_reach.proofs.LoopLaws as laws
use Rattle.rc_reach.proofs.laws.rounds_are_chains.Goals as goal

pub returns : goal.returns
returns c = λ plane h q k ok header. laws.going_on_is_chain plane ok h header k q
