use Rattle.std.proofs.Common.{◌≡◌, take}
use Rattle.rc_pieces.proofs.piece.share_all.Given as goal

abbrev pub invariant-loop-piece : goal.invariant-loop-piece
invariant-loop-piece g l = l.shared ≡ take l.piece-index l.pieces
