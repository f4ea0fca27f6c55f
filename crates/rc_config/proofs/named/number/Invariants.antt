use Rattle.rc_config.proofs.NamedLaws.{AreNumbered}
use Rattle.rc_config.proofs.named.number.Given as goal

abbrev pub invariant-loop-index : goal.invariant-loop-index
invariant-loop-index g l = AreNumbered l.places.entries l.entries l.index
