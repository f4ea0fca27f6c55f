use Rattle.std.proofs.Common.{refl, subst}
use Rattle.rc_config.specs.declared.access_list.FurtherTest.TheVariants.{Any, Established}
use Rattle.rc_trees.specs.Recipes.{parts}
use Rattle.rc_trees.specs.Trees.{HasNodes}
use Rattle.rc_sets.specs.AccessLists.{code_set}
use Rattle.rc_sets.proofs.LineLaws.{untested}
use Rattle.rc_sets.proofs.further.code_set.Goals as goal

pub code_of-requires-clause-may : goal.code_of-requires-clause-may
code_of-requires-clause-may g c = subst (λ t. HasNodes c.args.nodes.now.may (parts (code_set t))) c.in-Icmp.is c.requires.may

pub returns-in-Any-clause-set : goal.returns-in-Any-clause-set
returns-in-Any-clause-set g c = untested c.args.work.now code_set c.args.test Any c.in-Any.is refl

pub returns-in-Established-clause-set : goal.returns-in-Established-clause-set
returns-in-Established-clause-set g c = untested c.args.work.now code_set c.args.test Established c.in-Established.is refl
