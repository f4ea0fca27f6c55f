use Rattle.rc_spread.specs.Turned.{AreOut}
use Rattle.rc_spread.proofs.turning.flows_out.Given as goal

abbrev pub invariant-loop-onto : goal.invariant-loop-onto
invariant-loop-onto l = AreOut l.into l.onto l.out.items
