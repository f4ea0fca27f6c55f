use Rattle.rc_moves.proofs.PositionLaws.{same_position-Decides}
use Rattle.rc_moves.proofs.laws.positions_are_told_apart.Goals as goal

pub returns : goal.returns
returns c = same_position-Decides
