use Rattle.std.proofs.Common.{◌≡◌, ◌++◌, length}
use Rattle.rc_pieces.specs.Pieces.{joined}
use Rattle.rc_pieces.proofs.known.in_parts.Given as goal

-- what is made, and what is left behind it, is all
abbrev pub invariant-loop-piece : goal.invariant-loop-piece
invariant-loop-piece g l = l.parts ++ joined l.left.items ≡ l.fn.pieces

abbrev pub decreases-loop-piece : goal.decreases-loop-piece
decreases-loop-piece g l = length l.left.items
