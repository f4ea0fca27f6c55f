use Rattle.std.proofs.Common.{drop}
use Rattle.rc_pieces.proofs.LongestLaws.{AreRead}
use Rattle.rc_pieces.proofs.longest.read_pieces.Given as goal

-- that those that are left are in order suffices
abbrev pub invariant-loop-piece : goal.invariant-loop-piece
invariant-loop-piece g l = AreRead g.T.HasPrefix.prefix_of l.pieces (drop l.piece-index l.pieces)
