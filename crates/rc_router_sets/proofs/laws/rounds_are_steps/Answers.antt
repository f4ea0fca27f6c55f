use Rattle.rc_router_sets.proofs.ReachedLaws as reached
use Rattle.rc_router_sets.proofs.ResultLaws as laws
use Rattle.rc_router_sets.proofs.laws.rounds_are_steps.Goals as goal

pub returns : goal.returns
returns c = λ plane h place q k ok header start. reached.reached_is_brought plane ok h header place (laws.position_in plane.network place start) k q
