use Rattle.std.proofs.Common.{◌≡◌, ◌++◌, drop}
use Rattle.rc_pieces.specs.Pieces.{joined}
use Rattle.rc_bgp.specs.Telling.{may_tell}
use Rattle.rc_bgp.proofs.telling.not_heard_inside.Given as goal

abbrev pub invariant-loop-piece : goal.invariant-loop-piece
invariant-loop-piece l = l.told ++ may_tell (joined (drop l.piece-index l.piece-items)) ≡ may_tell l.paths
