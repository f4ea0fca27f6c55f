use Rattle.rc_cubes.proofs.CoverLaws.{in_one, in_none}
use Rattle.rc_cubes.proofs.laws.cubes_part_the_set.Goals as goal

pub returns-clause-one : goal.returns-clause-one
returns-clause-one c = λ t h r e. in_one t r h e

pub returns-clause-none : goal.returns-clause-none
returns-clause-none c = λ t h r e. in_none t r h e
