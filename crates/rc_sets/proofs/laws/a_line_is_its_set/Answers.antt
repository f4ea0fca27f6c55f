use Rattle.rc_sets.proofs.AccessListLaws.{has-line_set}
use Rattle.rc_sets.proofs.laws.a_line_is_its_set.Goals as goal

pub returns : goal.returns
returns c = λ l h is. has-line_set h is l
