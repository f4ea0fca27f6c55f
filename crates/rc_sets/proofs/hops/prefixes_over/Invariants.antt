use Rattle.std.proofs.Common.{drop}
use Rattle.rc_sets.proofs.StretchLaws.{AreFound}
use Rattle.rc_sets.proofs.hops.prefixes_over.Given as goal

-- what is found and what is left to find are all, and the other stretches are those of the routes that are left
abbrev pub invariant-loop-stretch : goal.invariant-loop-stretch
invariant-loop-stretch l = AreFound l.hop l.fib (drop l.stretch-index l.stretches) l.from l.left l.given.items
