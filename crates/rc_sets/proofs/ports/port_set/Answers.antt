use Rattle.std.proofs.Common.{sym, subst, ap}
use Rattle.rc_trees.specs.Recipes.{Recipe, parts, tree}
use Rattle.rc_trees.specs.Trees.{HasNodes, HasNodesOf}
use Rattle.rc_trees.proofs.NodeLaws.{has_recipe}
use Rattle.rc_sets.specs.AccessLists.{port_set}
use Rattle.rc_sets.proofs.LineLaws.{IsKnownAs, any_port, equal_recipe, not_equal_recipe, below_tree, above_tree, within_tree}
use Rattle.rc_sets.proofs.ports.port_set.Goals as goal

pub one_of-requires-clause-may : goal.one_of-requires-clause-may
one_of-requires-clause-may g c = subst (λ (r : Recipe). HasNodes c.args.nodes.now.may (parts r)) (sym (equal_recipe c.args.last c.args.test.now _ _ c.in-Equal.is c.as_slice.ensures.ports)) c.requires.may

pub none_of-requires-clause-may : goal.none_of-requires-clause-may
none_of-requires-clause-may g c = subst (λ (r : Recipe). HasNodes c.args.nodes.now.may (parts r)) (sym (not_equal_recipe c.args.last c.args.test.now _ _ c.in-NotEqual.is c.as_slice-in-NotEqual.ensures.ports)) c.requires.may

pub from_to-requires-clause-may : goal.from_to-requires-clause-may
from_to-requires-clause-may g c = subst (HasNodesOf c.args.nodes.now.may) (sym (below_tree c.args.last c.args.test.now c.requires.port _ _ c.in-Below.is c.from.ensures)) (has_recipe c.args.nodes.now.may (port_set c.args.last c.args.test.now) c.requires.may)

pub from_to-requires-in-Above-clause-may : goal.from_to-requires-in-Above-clause-may
from_to-requires-in-Above-clause-may g c = subst (HasNodesOf c.args.nodes.now.may) (sym (above_tree c.args.last c.args.test.now c.requires.port _ _ c.in-Above.is c.from-in-Above.ensures)) (has_recipe c.args.nodes.now.may (port_set c.args.last c.args.test.now) c.requires.may)

pub from_to-requires-in-Within-clause-may : goal.from_to-requires-in-Within-clause-may
from_to-requires-in-Within-clause-may g c =
    subst (HasNodesOf c.args.nodes.now.may) (sym (within_tree c.args.last c.args.test.now c.requires.port _ _ _ _ c.in-Within.is c.from-in-Within.ensures c.from-end.ensures)) (has_recipe c.args.nodes.now.may (port_set c.args.last c.args.test.now) c.requires.may)

pub returns-in-Any-clause-set : goal.returns-in-Any-clause-set
returns-in-Any-clause-set g c = any_port c.args.work.now c.args.last c.args.test.now c.in-Any.is

pub returns-in-Equal-clause-set : goal.returns-in-Equal-clause-set
returns-in-Equal-clause-set g c = subst (IsKnownAs c.one_of.new.work c.one_of.result) (ap tree (equal_recipe c.args.last c.args.test.now _ _ c.in-Equal.is c.as_slice.ensures.ports)) c.one_of.ensures.set

pub returns-in-NotEqual-clause-set : goal.returns-in-NotEqual-clause-set
returns-in-NotEqual-clause-set g c = subst (IsKnownAs c.none_of.new.work c.none_of.result) (ap tree (not_equal_recipe c.args.last c.args.test.now _ _ c.in-NotEqual.is c.as_slice-in-NotEqual.ensures.ports)) c.none_of.ensures.set

pub returns-in-Below-clause-set : goal.returns-in-Below-clause-set
returns-in-Below-clause-set g c = subst (IsKnownAs c.from_to.new.work c.from_to.result) (below_tree c.args.last c.args.test.now c.requires.port _ _ c.in-Below.is c.from.ensures) c.from_to.ensures.set

pub returns-in-Above-clause-set : goal.returns-in-Above-clause-set
returns-in-Above-clause-set g c = subst (IsKnownAs c.from_to-in-Above.new.work c.from_to-in-Above.result) (above_tree c.args.last c.args.test.now c.requires.port _ _ c.in-Above.is c.from-in-Above.ensures) c.from_to-in-Above.ensures.set

pub returns-in-Within-clause-set : goal.returns-in-Within-clause-set
returns-in-Within-clause-set g c =
    subst (IsKnownAs c.from_to-in-Within.new.work c.from_to-in-Within.result) (within_tree c.args.last c.args.test.now c.requires.port _ _ _ _ c.in-Within.is c.from-in-Within.ensures c.from-end.ensures) c.from_to-in-Within.ensures.set
