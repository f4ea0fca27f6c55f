use Rattle.rc_trees.specs.Recipes.{tree}
use Rattle.rc_sets.specs.Regions.{hop_set}
use Rattle.rc_sets.proofs.TableLaws.{may_all, set_all}
use Rattle.rc_sets.proofs.hops.set_over.Goals as goal

pub build-requires-clause-may : goal.build-requires-clause-may
build-requires-clause-may g c =
    let (hop, given, allowed) = c.requires.may in
    may_all c.args.fib.now c.prefixes.ensures.in_order hop c.prefixes.result.now c.prefixes.ensures.value c.args.given.now given c.args.nodes.now.may allowed

pub returns-in-Ok-clause-set : goal.returns-in-Ok-clause-set
returns-in-Ok-clause-set g c = λ hop given.
    c.in-Ok.ensures.built (tree (hop_set c.args.fib.now hop)) (set_all c.args.fib.now c.prefixes.ensures.in_order hop c.prefixes.result.now c.prefixes.ensures.value c.args.given.now given)
