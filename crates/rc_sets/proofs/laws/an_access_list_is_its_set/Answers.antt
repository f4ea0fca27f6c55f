use Rattle.rc_trees.proofs.RecipeLaws.{reduced-tree}
use Rattle.rc_sets.specs.AccessLists.{lines_set}
use Rattle.rc_sets.proofs.AccessListLaws.{has-lines_set}
use Rattle.rc_sets.proofs.AccessListsReduced.{of_reduced-lines_set}
use Rattle.rc_sets.proofs.laws.an_access_list_is_its_set.Goals as goal

pub returns-clause-permits : goal.returns-clause-permits
returns-clause-permits c = λ lines h is. has-lines_set h is lines

pub returns-clause-reduced : goal.returns-clause-reduced
returns-clause-reduced c = λ lines. reduced-tree (lines_set lines) (of_reduced-lines_set lines)
