use Rattle.rc_bgp_decide.specs.Decision.{standing}
use Rattle.rc_bgp_decide.proofs.DecisionLaws.{alone_is_best}
use Rattle.rc_bgp_decide.proofs.choice.best.Goals as goal

pub returns-then-paths-eq1-clause-best : goal.returns-then-paths-eq1-clause-best
returns-then-paths-eq1-clause-best c = alone_is_best standing c.args.paths.now c.if-paths-eq1.true
