use Rattle.rc_trees.specs.Combine as trees
use Rattle.rc_trees.specs.Trees.{always}
use Rattle.rc_trees.specs.Recipes.{given, minus, tree}
use Rattle.rc_trees.proofs.PartLaws.{minus-second}
use Rattle.rc_nodes.proofs.KnownLaws.{knows_always}
use Rattle.rc_sets.proofs.LineLaws.{joined, piece, may_minus, operated}
use Rattle.rc_sets.proofs.ports.none_of.Goals as goal

pub one_of-requires-clause-may : goal.one_of-requires-clause-may
one_of-requires-clause-may g c = let some = joined c.args.last c.args.ports.now in piece c.args.nodes.now.may (minus (given always) some) some (minus-second (given always) some) c.requires.may

pub minus-requires-clause-may : goal.minus-requires-clause-may
minus-requires-clause-may g c = let some = joined c.args.last c.args.ports.now in may_minus c.args.nodes.now c.one_of.new.work 1 c.in_ok-some.some.index (given always) some (knows_always c.one_of.new.work) c.in_ok-some.ensures.set c.requires.may

pub returns-clause-set : goal.returns-clause-set
returns-clause-set g c =
    operated c.one_of.new.work c.minus.new.self trees.minus 1 c.in_ok-some.some.index always (tree (joined c.args.last c.args.ports.now)) (knows_always c.one_of.new.work) c.in_ok-some.ensures.set c.minus.result c.minus.ensures.minus
