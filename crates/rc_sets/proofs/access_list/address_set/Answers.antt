use Rattle.std.proofs.Common.{sym, subst}
use Rattle.rc_trees.specs.Fields.{masked}
use Rattle.rc_trees.specs.Trees.{HasNodesOf}
use Rattle.rc_trees.proofs.NodeLaws.{has_recipe}
use Rattle.rc_sets.specs.AccessLists.{address_set}
use Rattle.rc_sets.proofs.access_list.address_set.Goals as goal

pub masked_set-requires-clause-may : goal.masked_set-requires-clause-may
masked_set-requires-clause-may g c =
    subst (HasNodesOf c.args.nodes.now.may) (λ i. masked c.args.last 32 (sym c.bits.ensures i) (sym c.bits-2.ensures i)) (has_recipe c.args.nodes.now.may (address_set c.args.last c.args.test) c.requires.may)
