use Rattle.std.proofs.Common.{◌≡◌, ◌++◌, drop}
use Rattle.rc_pieces.specs.Pieces.{joined}
use Rattle.rc_pieces.proofs.listed.Listed.copied.Given as goal

-- what is made, and what is left behind it, is all
abbrev pub invariant-loop-piece : goal.invariant-loop-piece
invariant-loop-piece g l = l.items ++ joined (drop l.piece-index l.piece-items) ≡ l.self
