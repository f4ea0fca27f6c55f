use Rattle.std.proofs.Common.{sym}
use Rattle.std.specs.List.{flat_map}
use Rattle.rc_edges.proofs.EndLaws.{no_route_is, null_routed_is, over_hops_is}
use Rattle.rc_router_sets.proofs.JoinLaws.{known_like, may_like}
use Rattle.rc_router_sets.proofs.MadeLaws.{made_kept, whenever}
use Rattle.rc_router_sets.specs.Edges.{union}
use Rattle.rc_router_sets.specs.Endings.{end}
use Rattle.rc_router_sets.specs.Ends.{ends_over}
use Rattle.rc_router_sets.specs.Sent.{forwarded, hops_at, sent}
use Rattle.rc_route.specs.declared.route.Hop.TheVariants.{Null}
use Rattle.rc_sets.specs.Regions.{hop_set}
use Rattle.rc_trees.specs.Recipes.{without}
use Rattle.rc_moves.specs.Moves.{fib_of, router_of}
use Rattle.rc_edges.proofs.endings.end_set.Goals as goal

pub returns-in-DeniedIn-clause-made : goal.returns-in-DeniedIn-clause-made
returns-in-DeniedIn-clause-made g c =
    whenever c.denied_in_set.result _ (made_kept c.args.nodes.now c.args.site.now.plane.now c.args.site.now.position c.args.made.now c.args.work.now c.denied_in_set.new.work c.requires.made c.denied_in_set.ensures.seat c.denied_in_set.ensures.keeps)

pub no_route_set-requires-clause-may : goal.no_route_set-requires-clause-may
no_route_set-requires-clause-may g c =
    let plane = c.args.site.now.plane.now in
    let q = c.args.site.now.position in
    may_like c.args.nodes.now.may (end plane q c.args.kind) (without (hop_set (fib_of plane (router_of q))) (forwarded plane q) (hops_at plane q)) (sym (no_route_is plane q c.args.kind c.in-NoRoute.is)) c.requires.may

pub returns-in-NoRoute-clause-set : goal.returns-in-NoRoute-clause-set
returns-in-NoRoute-clause-set g c =
    let plane = c.args.site.now.plane.now in
    let q = c.args.site.now.position in
    known_like c.no_route_set.new.work c.no_route_set.result (without (hop_set (fib_of plane (router_of q))) (forwarded plane q) (hops_at plane q)) (end plane q c.args.kind) (no_route_is plane q c.args.kind c.in-NoRoute.is) c.no_route_set.ensures.set

pub null_routed_set-requires-clause-may : goal.null_routed_set-requires-clause-may
null_routed_set-requires-clause-may g c =
    let plane = c.args.site.now.plane.now in
    let q = c.args.site.now.position in
    may_like c.args.nodes.now.may (end plane q c.args.kind) (sent plane q Null) (sym (null_routed_is plane q c.args.kind c.in-NullRouted.is)) c.requires.may

pub returns-in-NullRouted-clause-set : goal.returns-in-NullRouted-clause-set
returns-in-NullRouted-clause-set g c =
    let plane = c.args.site.now.plane.now in
    let q = c.args.site.now.position in
    known_like c.null_routed_set.new.work c.null_routed_set.result (sent plane q Null) (end plane q c.args.kind) (null_routed_is plane q c.args.kind c.in-NullRouted.is) c.null_routed_set.ensures.set

pub over_hops_set-requires-clause-may : goal.over_hops_set-requires-clause-may
over_hops_set-requires-clause-may g c =
    let plane = c.args.site.now.plane.now in
    let q = c.args.site.now.position in
    may_like c.args.nodes.now.may (end plane q c.args.kind) (union (flat_map (ends_over plane q c.args.kind) (hops_at plane q))) (sym (over_hops_is plane q c.args.kind c.in-DeniedOut.is)) c.requires.may

pub returns-in-DeniedOut-clause-set : goal.returns-in-DeniedOut-clause-set
returns-in-DeniedOut-clause-set g c =
    let plane = c.args.site.now.plane.now in
    let q = c.args.site.now.position in
    known_like c.over_hops_set.new.work c.over_hops_set.result (union (flat_map (ends_over plane q c.args.kind) (hops_at plane q))) (end plane q c.args.kind) (over_hops_is plane q c.args.kind c.in-DeniedOut.is) c.over_hops_set.ensures.set
