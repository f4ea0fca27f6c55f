use Rattle.std.proofs.Common.{◌≡◌, ◌++◌, length}
use Rattle.rc_pieces.proofs.known.into_state.Given as goal

-- what is made, and what is left behind it, is all
abbrev pub invariant-loop-known : goal.invariant-loop-known
invariant-loop-known l = l.made ++ l.left.items ≡ l.fn.state

abbrev pub decreases-loop-known : goal.decreases-loop-known
decreases-loop-known l = length l.left.items
