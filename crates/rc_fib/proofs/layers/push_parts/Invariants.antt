use Rattle.std.proofs.Common.{drop}
use Rattle.rc_route.specs.Parts.{joined_parts}
use Rattle.rc_fib.proofs.GrowingLaws.{Grown}
use Rattle.rc_fib.proofs.layers.push_parts.Given as goal

-- the routes of the parts before those that are left are made
abbrev pub invariant-loop-part : goal.invariant-loop-part
invariant-loop-part l = Grown l.fib l.fn.made (joined_parts (drop l.part-index l.parts)) (joined_parts l.parts) l.made
