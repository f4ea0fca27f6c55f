use Rattle.std.proofs.Common.{ap, sym, ◌∙◌, subst, List, []}
use Rattle.std.specs.Option.{option_copied}
use Rattle.std.specs.Prelude.{unwrap_or}
use Rattle.rc_router_sets.proofs.UseLaws.{no_table}
use Rattle.rc_fib.specs.Entry.{Entry}
use Rattle.rc_nodes.proofs.KnownLaws.{knows_never}
use Rattle.rc_nodes.specs.Seats.{SeatKnows}
use Rattle.rc_sets.specs.Regions.{hop_set}
use Rattle.rc_trees.proofs.NodeLaws.{has_recipe}
use Rattle.rc_trees.specs.Recipes.{tree}
use Rattle.rc_trees.specs.Trees.{HasNodesOf}
use Rattle.rc_moves.specs.Moves.{fib_of}
use Rattle.rc_router_sets.proofs.router_sets.over_set.Goals as goal

pub returns-in_default-clause-set : goal.returns-in_default-clause-set
returns-in_default-clause-set g c = subst (SeatKnows c.args.work.now 0) (no_table c.args.plane.now c.args.router c.args.hop.now (sym c.fib.ensures ∙ ap option_copied c.in_default.is)) (knows_never c.args.work.now)

pub hop_set-requires-clause-may : goal.hop_set-requires-clause-may
hop_set-requires-clause-may g c =
    subst (λ (fib : List Entry). HasNodesOf c.args.nodes.now.may (tree (hop_set fib c.args.hop.now))) (sym (ap (λ o. unwrap_or o []) (c.in-Some.ensures)))
    (has_recipe c.args.nodes.now.may (hop_set (fib_of c.args.plane.now c.args.router) c.args.hop.now) c.requires.may)
