use Rattle.rc_pieces.proofs.LongestLaws.{IsLeft}
use Rattle.rc_pieces.proofs.longest.longest_of.Given as goal

-- no piece from the place on holds the address
abbrev pub invariant-loop-end : goal.invariant-loop-end
invariant-loop-end g l = IsLeft g.T.HasPrefix.prefix_of l.addr l.pieces l.end

abbrev pub decreases-loop-end : goal.decreases-loop-end
decreases-loop-end g l = l.end
