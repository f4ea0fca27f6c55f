use Rattle.std.proofs.Common.{◌≡◌, ◌++◌, drop}
use Rattle.rc_bgp.specs.Telling.{may_tell}
use Rattle.rc_bgp.proofs.telling.add_not_heard_inside.Given as goal

abbrev pub invariant-loop-best : goal.invariant-loop-best
invariant-loop-best l = l.told ++ may_tell (drop l.best-index l.paths) ≡ l.initial.told ++ may_tell l.paths
