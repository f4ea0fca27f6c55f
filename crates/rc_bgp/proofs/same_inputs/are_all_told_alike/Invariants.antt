use Rattle.std.proofs.Common.{drop}
use Rattle.rc_pieces.specs.Pieces.{joined}
use Rattle.rc_bgp.specs.Changes.{IsToldAlike}
use Rattle.rc_bgp.proofs.PieceLaws.{HaveAllBut}
use Rattle.rc_bgp.proofs.same_inputs.are_all_told_alike.Given as goal

abbrev pub invariant-loop-piece : goal.invariant-loop-piece
invariant-loop-piece l = HaveAllBut (IsToldAlike l.before l.now) (joined (drop l.piece-index l.piece-items)) l.paths
