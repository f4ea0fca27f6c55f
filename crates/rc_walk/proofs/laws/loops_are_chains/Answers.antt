use Rattle.rc_walk.proofs.ChainLaws as laws
use Rattle.rc_walk.proofs.laws.loops_are_chains.Goals as goal

pub returns-clause-long : goal.returns-clause-long
returns-clause-long c = λ plane h q links there. laws.chain_is_loop plane h links q there

pub returns-clause-endless : goal.returns-clause-endless
returns-clause-endless c = λ plane h q links there. laws.loop_is_for_ever plane h links q there
