use Rattle.rc_spread.proofs.AloneLaws.{AreListedTo}
use Rattle.rc_spread.proofs.alone.fresh_ones.Given as goal

abbrev pub invariant-loop-q : goal.invariant-loop-q
invariant-loop-q l = AreListedTo l.fresh l.q l.found.items
