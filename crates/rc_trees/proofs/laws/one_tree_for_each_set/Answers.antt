use Rattle.rc_trees.proofs.HeaderLaws as law
use Rattle.rc_trees.proofs.laws.one_tree_for_each_set.Goals as goal

pub returns : goal.returns
returns c = law.one_tree_per_set
