use Rattle.std.proofs.Common.{◌≡◌, ◌++◌, length}
use Rattle.rc_moves.specs.Moves.{moves}
use Rattle.rc_walk.proofs.search.moves_of.Given as goal

abbrev pub invariant-loop-next : goal.invariant-loop-next
invariant-loop-next l = l.all.items ++ l.steps ≡ moves l.seeking.plane.now l.seeking.header l.fn.position

abbrev pub decreases-loop-next : goal.decreases-loop-next
decreases-loop-next l = length l.steps
