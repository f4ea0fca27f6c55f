use Rattle.std.proofs.Common.{sym, subst}
use Rattle.rc_router_sets.proofs.JoinLaws.{known_like, may_like, may_and, operated, piece}
use Rattle.rc_router_sets.proofs.MadeLaws.{made_kept, whenever}
use Rattle.rc_router_sets.proofs.UseLaws.{sent_is}
use Rattle.rc_router_sets.specs.Sent.{forwarded, sent}
use Rattle.rc_route.specs.declared.route.Hop.TheVariants.{Null}
use Rattle.rc_sets.specs.Regions.{hop_set}
use Rattle.rc_nodes.specs.Seats.{SeatKnows}
use Rattle.rc_trees.proofs.PartLaws.{and-first, and-second}
use Rattle.rc_trees.specs.Combine as trees
use Rattle.rc_trees.specs.Recipes as recipes
use Rattle.rc_trees.specs.Recipes.{parts, tree}
use Rattle.rc_trees.specs.Trees.{HasNodes}
use Rattle.rc_moves.specs.Moves.{fib_of, router_of}
use Rattle.rc_edges.proofs.endings.null_routed_set.Goals as goal

pub forwarded_set-requires-clause-may : goal.forwarded_set-requires-clause-may
forwarded_set-requires-clause-may g c = (piece c.args.nodes.now.may (recipes.and (forwarded c.args.site.now.plane.now c.args.site.now.position) (hop_set (fib_of c.args.site.now.plane.now (router_of c.args.site.now.position)) Null)) (forwarded c.args.site.now.plane.now c.args.site.now.position) (and-first (forwarded c.args.site.now.plane.now c.args.site.now.position) (hop_set (fib_of c.args.site.now.plane.now (router_of c.args.site.now.position)) Null)) (may_like c.args.nodes.now.may (sent c.args.site.now.plane.now c.args.site.now.position Null) (recipes.and (forwarded c.args.site.now.plane.now c.args.site.now.position) (hop_set (fib_of c.args.site.now.plane.now (router_of c.args.site.now.position)) Null)) (sym (sent_is c.args.site.now.plane.now c.args.site.now.position Null)) c.requires.may))

pub over_set-requires-clause-may : goal.over_set-requires-clause-may
over_set-requires-clause-may g c = subst (λ r. HasNodes c.args.nodes.now.may (parts (hop_set (fib_of c.args.site.now.plane.now r) Null))) (sym c.router.ensures) (piece c.args.nodes.now.may (recipes.and (forwarded c.args.site.now.plane.now c.args.site.now.position) (hop_set (fib_of c.args.site.now.plane.now (router_of c.args.site.now.position)) Null)) (hop_set (fib_of c.args.site.now.plane.now (router_of c.args.site.now.position)) Null) (and-second (forwarded c.args.site.now.plane.now c.args.site.now.position) (hop_set (fib_of c.args.site.now.plane.now (router_of c.args.site.now.position)) Null)) (may_like c.args.nodes.now.may (sent c.args.site.now.plane.now c.args.site.now.position Null) (recipes.and (forwarded c.args.site.now.plane.now c.args.site.now.position) (hop_set (fib_of c.args.site.now.plane.now (router_of c.args.site.now.position)) Null)) (sym (sent_is c.args.site.now.plane.now c.args.site.now.position Null)) c.requires.may))

pub and-requires-clause-may : goal.and-requires-clause-may
and-requires-clause-may g c = may_and c.args.nodes.now c.over_set.new.work c.in_ok-forwarded.forwarded.index c.in_ok-over.over.index (forwarded c.args.site.now.plane.now c.args.site.now.position) (hop_set (fib_of c.args.site.now.plane.now (router_of c.args.site.now.position)) Null) (c.over_set.ensures.keeps c.in_ok-forwarded.forwarded.index (tree (forwarded c.args.site.now.plane.now c.args.site.now.position)) (c.in_ok-forwarded.ensures.set)) (subst (λ r. SeatKnows c.over_set.new.work c.in_ok-over.over.index (tree (hop_set (fib_of c.args.site.now.plane.now r) Null))) c.router.ensures c.in_ok-over.ensures.set) (may_like c.args.nodes.now.may (sent c.args.site.now.plane.now c.args.site.now.position Null) (recipes.and (forwarded c.args.site.now.plane.now c.args.site.now.position) (hop_set (fib_of c.args.site.now.plane.now (router_of c.args.site.now.position)) Null)) (sym (sent_is c.args.site.now.plane.now c.args.site.now.position Null)) c.requires.may)

pub returns-clause-made : goal.returns-clause-made
returns-clause-made g c = whenever c.and.result _ (made_kept c.args.nodes.now c.args.site.now.plane.now c.args.site.now.position c.forwarded_set.new.made c.forwarded_set.new.work c.and.new.self c.in_ok-forwarded.ensures.made c.and.ensures.seat (λ r t k. c.and.ensures.keeps r t (c.in_ok-over.ensures.keeps r t k)))

pub returns-clause-set : goal.returns-clause-set
returns-clause-set g c =
    known_like c.and.new.self c.and.result (recipes.and (forwarded c.args.site.now.plane.now c.args.site.now.position) (hop_set (fib_of c.args.site.now.plane.now (router_of c.args.site.now.position)) Null)) (sent c.args.site.now.plane.now c.args.site.now.position Null) (sent_is c.args.site.now.plane.now c.args.site.now.position Null)
    (operated c.over_set.new.work c.and.new.self trees.and c.in_ok-forwarded.forwarded.index c.in_ok-over.over.index (tree (forwarded c.args.site.now.plane.now c.args.site.now.position)) (tree (hop_set (fib_of c.args.site.now.plane.now (router_of c.args.site.now.position)) Null)) (c.over_set.ensures.keeps c.in_ok-forwarded.forwarded.index (tree (forwarded c.args.site.now.plane.now c.args.site.now.position)) (c.in_ok-forwarded.ensures.set)) (subst (λ r. SeatKnows c.over_set.new.work c.in_ok-over.over.index (tree (hop_set (fib_of c.args.site.now.plane.now r) Null))) c.router.ensures c.in_ok-over.ensures.set) c.and.result c.and.ensures.and)
