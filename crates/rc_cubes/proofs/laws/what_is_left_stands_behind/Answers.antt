use Rattle.rc_cubes.proofs.CubeLaws.{behind_in_list, left_end}
use Rattle.rc_cubes.proofs.laws.what_is_left_stands_behind.Goals as goal

pub returns-clause-behind : goal.returns-clause-behind
returns-clause-behind c = behind_in_list

pub returns-clause-ending : goal.returns-clause-ending
returns-clause-ending c = left_end
