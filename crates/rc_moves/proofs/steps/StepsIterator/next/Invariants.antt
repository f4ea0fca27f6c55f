use Rattle.std.proofs.Common.{◌≡◌, ◌++◌, length}
use Rattle.std.specs.Prelude.{flat_map}
use Rattle.rc_moves.specs.Left.{moves_begun}
use Rattle.rc_moves.specs.Moves.{moves_by}
use Rattle.rc_moves.proofs.steps.StepsIterator.next.Given as goal

-- the same moves are left
abbrev pub invariant-loop-found : goal.invariant-loop-found
invariant-loop-found l =
    l.fn.self ≡ moves_begun l.self-inside.begun ++ flat_map (moves_by l.self-inside.sending.plane.now l.self-inside.sending.header l.self-inside.sending.position) l.self-inside.hops.now

abbrev pub decreases-loop-found : goal.decreases-loop-found
decreases-loop-found l = length l.self-inside.hops.now
