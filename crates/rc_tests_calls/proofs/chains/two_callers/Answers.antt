use Rattle.std.proofs.Common.{List, [], ◌∷◌, sym, subst}
use Rattle.rc_trees.specs.Fields.{chain}
use Rattle.rc_trees.specs.Recipes.{tree}
use Rattle.rc_trees.specs.Trees.{Tree, HasNodesOf}
use Rattle.rc_trees.proofs.NodeLaws.{chains_have}
use Rattle.rc_tests_calls.proofs.chains.two_callers.Goals as goal

pub both-seat-requires-clause-left : goal.both-seat-requires-clause-left
both-seat-requires-clause-left g c κs within = subst (λ (may : List Tree). HasNodesOf may (tree (chain c.args.left))) (sym c.in_ok-nodes.ensures.table.1) (chains_have [] c.args.left (c.args.right ∷ []))

pub both-seat-requires-clause-right : goal.both-seat-requires-clause-right
both-seat-requires-clause-right g c κs within = subst (λ (may : List Tree). HasNodesOf may (tree (chain c.args.right))) (sym c.in_ok-nodes.ensures.table.1) (chains_have (c.args.left ∷ []) c.args.right [])
