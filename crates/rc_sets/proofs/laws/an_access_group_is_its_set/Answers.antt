use Rattle.rc_trees.proofs.RecipeLaws.{reduced-tree}
use Rattle.rc_sets.specs.AccessLists.{passing_set}
use Rattle.rc_sets.proofs.AccessListLaws.{has-passing_set}
use Rattle.rc_sets.proofs.AccessListsReduced.{of_reduced-passing_set}
use Rattle.rc_sets.proofs.laws.an_access_group_is_its_set.Goals as goal

pub returns-clause-passes : goal.returns-clause-passes
returns-clause-passes c = λ access_lists group h is. has-passing_set h is access_lists group

pub returns-clause-reduced : goal.returns-clause-reduced
returns-clause-reduced c = λ access_lists group. reduced-tree (passing_set access_lists group) (of_reduced-passing_set access_lists group)
