use Rattle.std.proofs.Common.{sym, subst}
use Rattle.rc_router_sets.proofs.JoinLaws.{known_like, may_like, may_and, operated, piece}
use Rattle.rc_router_sets.proofs.MadeLaws.{made_kept, whenever}
use Rattle.rc_router_sets.proofs.UseLaws.{accepted_is}
use Rattle.rc_base.specs.declared.ending.Kind.TheVariants.{Accepted}
use Rattle.rc_router_sets.specs.Endings.{end}
use Rattle.rc_router_sets.specs.Sent.{let_in, to_router}
use Rattle.rc_nodes.specs.Seats.{SeatKnows}
use Rattle.rc_trees.proofs.PartLaws.{and-first, and-second}
use Rattle.rc_trees.specs.Combine as trees
use Rattle.rc_trees.specs.Recipes as recipes
use Rattle.rc_trees.specs.Recipes.{parts, tree}
use Rattle.rc_trees.specs.Trees.{HasNodes}
use Rattle.rc_moves.specs.Moves.{router_of}
use Rattle.rc_edges.proofs.endings.accepted_set.Goals as goal

pub let_in_set-requires-clause-may : goal.let_in_set-requires-clause-may
let_in_set-requires-clause-may g c = subst (λ n. HasNodes c.args.nodes.now.may (parts (let_in n c.args.site.now.position))) (sym c.network.ensures) (piece c.args.nodes.now.may (recipes.and (let_in c.args.site.now.plane.now.network c.args.site.now.position) (to_router c.args.site.now.plane.now (router_of c.args.site.now.position))) (let_in c.args.site.now.plane.now.network c.args.site.now.position) (and-first (let_in c.args.site.now.plane.now.network c.args.site.now.position) (to_router c.args.site.now.plane.now (router_of c.args.site.now.position))) (may_like c.args.nodes.now.may (end c.args.site.now.plane.now c.args.site.now.position Accepted) (recipes.and (let_in c.args.site.now.plane.now.network c.args.site.now.position) (to_router c.args.site.now.plane.now (router_of c.args.site.now.position))) (sym (accepted_is c.args.site.now.plane.now c.args.site.now.position)) c.requires.may))

pub owned_set-requires-clause-made : goal.owned_set-requires-clause-made
owned_set-requires-clause-made g c = made_kept c.args.nodes.now c.args.site.now.plane.now c.args.site.now.position c.args.made.now c.args.work.now c.let_in_set.new.work c.requires.made c.in_ok-let_in.ensures.seat c.in_ok-let_in.ensures.keeps

pub owned_set-requires-clause-may : goal.owned_set-requires-clause-may
owned_set-requires-clause-may g c = (piece c.args.nodes.now.may (recipes.and (let_in c.args.site.now.plane.now.network c.args.site.now.position) (to_router c.args.site.now.plane.now (router_of c.args.site.now.position))) (to_router c.args.site.now.plane.now (router_of c.args.site.now.position)) (and-second (let_in c.args.site.now.plane.now.network c.args.site.now.position) (to_router c.args.site.now.plane.now (router_of c.args.site.now.position))) (may_like c.args.nodes.now.may (end c.args.site.now.plane.now c.args.site.now.position Accepted) (recipes.and (let_in c.args.site.now.plane.now.network c.args.site.now.position) (to_router c.args.site.now.plane.now (router_of c.args.site.now.position))) (sym (accepted_is c.args.site.now.plane.now c.args.site.now.position)) c.requires.may))

pub and-requires-clause-may : goal.and-requires-clause-may
and-requires-clause-may g c = may_and c.args.nodes.now c.owned_set.new.work c.in_ok-let_in.let_in.index c.in_ok-owned.owned.index (let_in c.args.site.now.plane.now.network c.args.site.now.position) (to_router c.args.site.now.plane.now (router_of c.args.site.now.position)) (c.owned_set.ensures.keeps c.in_ok-let_in.let_in.index (tree (let_in c.args.site.now.plane.now.network c.args.site.now.position)) (subst (λ n. SeatKnows c.let_in_set.new.work c.in_ok-let_in.let_in.index (tree (let_in n c.args.site.now.position))) c.network.ensures c.in_ok-let_in.ensures.set)) c.in_ok-owned.ensures.set (may_like c.args.nodes.now.may (end c.args.site.now.plane.now c.args.site.now.position Accepted) (recipes.and (let_in c.args.site.now.plane.now.network c.args.site.now.position) (to_router c.args.site.now.plane.now (router_of c.args.site.now.position))) (sym (accepted_is c.args.site.now.plane.now c.args.site.now.position)) c.requires.may)

pub returns-clause-made : goal.returns-clause-made
returns-clause-made g c = whenever c.and.result _ (made_kept c.args.nodes.now c.args.site.now.plane.now c.args.site.now.position c.owned_set.new.made c.owned_set.new.work c.and.new.self c.in_ok-owned.ensures.made c.and.ensures.seat c.and.ensures.keeps)

pub returns-clause-set : goal.returns-clause-set
returns-clause-set g c =
    known_like c.and.new.self c.and.result (recipes.and (let_in c.args.site.now.plane.now.network c.args.site.now.position) (to_router c.args.site.now.plane.now (router_of c.args.site.now.position))) (end c.args.site.now.plane.now c.args.site.now.position Accepted) (accepted_is c.args.site.now.plane.now c.args.site.now.position)
    (operated c.owned_set.new.work c.and.new.self trees.and c.in_ok-let_in.let_in.index c.in_ok-owned.owned.index (tree (let_in c.args.site.now.plane.now.network c.args.site.now.position)) (tree (to_router c.args.site.now.plane.now (router_of c.args.site.now.position))) (c.owned_set.ensures.keeps c.in_ok-let_in.let_in.index (tree (let_in c.args.site.now.plane.now.network c.args.site.now.position)) (subst (λ n. SeatKnows c.let_in_set.new.work c.in_ok-let_in.let_in.index (tree (let_in n c.args.site.now.position))) c.network.ensures c.in_ok-let_in.ensures.set)) c.in_ok-owned.ensures.set c.and.result c.and.ensures.and)
