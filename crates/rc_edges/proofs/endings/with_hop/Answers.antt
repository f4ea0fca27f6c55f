use Rattle.std.proofs.Common.{subst}
use Rattle.std.specs.List.{flat_map}
use Rattle.rc_edges.proofs.EndLaws.{joined_may, more_may, nothing_more, one_more_is}
use Rattle.rc_router_sets.proofs.JoinLaws.{known_like, may_or, operated}
use Rattle.rc_router_sets.proofs.MadeLaws.{made_kept, whenever}
use Rattle.rc_router_sets.proofs.StepLaws.{no_step, one_step}
use Rattle.std.proofs.Common.{take, ◌+◌}
use Rattle.rc_router_sets.specs.Edges.{union}
use Rattle.rc_router_sets.specs.Ends.{ends_over}
use Rattle.rc_router_sets.specs.Sent.{hops_at}
use Rattle.rc_router_sets.specs.Steps.{step_at}
use Rattle.rc_nodes.specs.Seats.{SeatKnows}
use Rattle.rc_trees.specs.Combine as trees
use Rattle.rc_trees.specs.Recipes as recipes
use Rattle.rc_trees.specs.Recipes.{tree}
use Rattle.rc_edges.proofs.endings.with_hop.Goals as goal

pub returns-in_default-clause-set : goal.returns-in_default-clause-set
returns-in_default-clause-set g c =
    let plane = c.args.site.now.plane.now in
    let q = c.args.site.now.position in
    let x = c.args.at.now.hop in
    subst (λ r. SeatKnows c.args.work.now c.args.set.index (tree r)) (nothing_more (ends_over plane q c.args.kind) (hops_at plane q) c.args.at.now.index x c.requires.at (no_step plane q c.args.kind x c.stop_step.result c.stop_step.ensures c.in_default.is)) c.requires.before

pub step_set-requires-clause-may : goal.step_set-requires-clause-may
step_set-requires-clause-may g c =
    let plane = c.args.site.now.plane.now in
    let q = c.args.site.now.position in
    let x = c.args.at.now.hop in
    let s = step_at plane q c.in-Some.step x in
    more_may (ends_over plane q c.args.kind) (hops_at plane q) c.args.at.now.index x c.requires.at s (one_step plane q c.args.kind x c.stop_step.result c.in-Some.step c.stop_step.ensures c.in-Some.is) c.args.nodes.now.may c.requires.may

pub or-requires-clause-may : goal.or-requires-clause-may
or-requires-clause-may g c =
    let plane = c.args.site.now.plane.now in
    let q = c.args.site.now.position in
    let x = c.args.at.now.hop in
    let f = ends_over plane q c.args.kind in
    let s = step_at plane q c.in-Some.step x in
    let before = union (flat_map f (take c.args.at.now.index (hops_at plane q))) in
    may_or c.args.nodes.now c.step_set.new.work c.args.set.index c.in_ok-more.more.index before s (c.in_ok-more.ensures.keeps c.args.set.index (tree before) c.requires.before) c.in_ok-more.ensures.set
    (joined_may f (hops_at plane q) c.args.at.now.index x c.requires.at s (one_step plane q c.args.kind x c.stop_step.result c.in-Some.step c.stop_step.ensures c.in-Some.is) c.args.nodes.now.may c.requires.may)

pub returns-clause-made : goal.returns-clause-made
returns-clause-made g c = whenever c.or.result _ (made_kept c.args.nodes.now c.args.site.now.plane.now c.args.site.now.position c.step_set.new.made c.step_set.new.work c.or.new.self c.in_ok-more.ensures.made c.or.ensures.seat c.or.ensures.keeps)

pub returns-clause-set : goal.returns-clause-set
returns-clause-set g c =
    let plane = c.args.site.now.plane.now in
    let q = c.args.site.now.position in
    let x = c.args.at.now.hop in
    let f = ends_over plane q c.args.kind in
    let s = step_at plane q c.in-Some.step x in
    let before = union (flat_map f (take c.args.at.now.index (hops_at plane q))) in
    known_like c.or.new.self c.or.result (recipes.or before s) (union (flat_map f (take (c.args.at.now.index + 1) (hops_at plane q))))
    (one_more_is f (hops_at plane q) c.args.at.now.index x c.requires.at s (one_step plane q c.args.kind x c.stop_step.result c.in-Some.step c.stop_step.ensures c.in-Some.is))
    (operated c.step_set.new.work c.or.new.self trees.or c.args.set.index c.in_ok-more.more.index (tree before) (tree s) (c.in_ok-more.ensures.keeps c.args.set.index (tree before) c.requires.before) c.in_ok-more.ensures.set c.or.result c.or.ensures.or)
