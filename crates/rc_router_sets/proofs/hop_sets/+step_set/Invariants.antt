use Rattle.rc_router_sets.proofs.StepLaws.{rank}
use Rattle.rc_router_sets.proofs.hop_sets.+step_set.Given as goal

abbrev pub decreases-step_set : goal.decreases-step_set
decreases-step_set g l = rank l.step
