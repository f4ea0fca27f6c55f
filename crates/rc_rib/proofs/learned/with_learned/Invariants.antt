use Rattle.std.proofs.Common.{◌≡◌, ◌++◌, drop}
use Rattle.rc_pieces.specs.Pieces.{joined}
use Rattle.rc_rib.specs.Merging.{merged}
use Rattle.rc_rib.specs.Next.{learned_routes}
use Rattle.rc_rib.proofs.learned.with_learned.Given as goal

-- what is made, and then what is left merged with what the pieces give that are left
abbrev pub invariant-loop-piece : goal.invariant-loop-piece
invariant-loop-piece l = l.made ++ merged l.left.items (learned_routes (joined (drop l.piece-index l.piece-items))) ≡ merged l.fn.table (learned_routes l.fn.paths)
