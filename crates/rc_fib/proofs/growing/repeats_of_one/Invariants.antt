use Rattle.std.proofs.Common.{◌∷◌, [], take}
use Rattle.std.specs.List.{AllByRecursion}
use Rattle.rc_fib.specs.Growing.{HasHops}
use Rattle.rc_fib.proofs.growing.repeats_of_one.Given as goal

-- so far each route has them
abbrev pub invariant-loop-index : goal.invariant-loop-index
invariant-loop-index l = AllByRecursion (HasHops (l.hop ∷ [])) (take l.index l.next)
