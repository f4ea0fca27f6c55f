use Rattle.std.proofs.Common.{ap, not, sym, ◌∙◌}
use Rattle.rc_trees.specs.Recipes.{tree}
use Rattle.rc_sets.specs.AccessLists.{line_set}
use Rattle.rc_sets.specs.IdleLines.{decided}
use Rattle.rc_sets.proofs.DecidingLaws.{nothing_shared, shared_is}
use Rattle.rc_sets.proofs.deciding.Decided.decides_of.Goals as goal

pub returns-then-not-may_share-clause-decides : goal.returns-then-not-may_share-clause-decides
returns-then-not-may_share-clause-decides g c = λ before all l k is of. sym (ap not (nothing_shared is of (c.may_share.ensures c.if-not-may_share.true)))

pub returns-clause-decides : goal.returns-clause-decides
returns-clause-decides g c = λ before all l k is of. c.meets.ensures.meets (tree (line_set k)) (tree (decided before l)) of.matched is.own ∙ shared_is k before l
