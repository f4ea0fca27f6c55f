use Rattle.rc_trees.proofs.PartLaws as law
use Rattle.rc_trees.proofs.laws.operations_go_by_sides.Goals as goal

pub returns : goal.returns
returns c = λ table s t less. (law.step table s t less).joins
