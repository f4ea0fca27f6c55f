use Rattle.rc_trees.proofs.PartLaws as law
use Rattle.rc_trees.proofs.laws.parts_are_subtrees.Goals as goal

pub returns : goal.returns
returns c = law.parts_are_subtrees
