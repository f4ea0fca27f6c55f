use Rattle.rc_moves.specs.Moves.{plane_of}
use Rattle.rc_walk.proofs.FirstLaws.{first_walk_is}
use Rattle.rc_moves.proofs.PlaneLaws.{prepared}
use Rattle.rc_walk.proofs.laws.there_is_a_first_walk.Goals as goal

pub returns : goal.returns
returns c net state h q = first_walk_is (plane_of net state) h (prepared state) q
