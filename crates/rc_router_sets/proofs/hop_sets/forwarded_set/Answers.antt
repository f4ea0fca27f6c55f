use Rattle.std.proofs.Common.{refl, sym, subst}
use Rattle.rc_router_sets.proofs.JoinLaws.{may_like, may_minus, piece}
use Rattle.rc_router_sets.proofs.MadeLaws.{known_some, made_kept, with_forwarded}
use Rattle.rc_router_sets.proofs.UseLaws.{forwarded_is}
use Rattle.rc_router_sets.specs.Sent.{forwarded, let_in, to_router}
use Rattle.rc_nodes.specs.Seats.{SeatKnows}
use Rattle.rc_trees.proofs.PartLaws.{minus-first, minus-second}
use Rattle.rc_trees.specs.Recipes as recipes
use Rattle.rc_trees.specs.Recipes.{parts, tree}
use Rattle.rc_trees.specs.Trees.{HasNodes}
use Rattle.rc_moves.specs.Moves.{router_of}
use Rattle.rc_router_sets.proofs.hop_sets.forwarded_set.Goals as goal

pub returns-in-Some-clause-set : goal.returns-in-Some-clause-set
returns-in-Some-clause-set g c = known_some c.args.work.now c.args.made.now.forwarded (forwarded c.args.site.now.plane.now c.args.site.now.position) c.in-Some.set c.in-Some.is c.requires.made.forwarded

pub let_in_set-requires-clause-may : goal.let_in_set-requires-clause-may
let_in_set-requires-clause-may g c =
    let plane = c.args.site.now.plane.now in
    let q = c.args.site.now.position in
    let left = let_in plane.network q in
    let right = to_router plane (router_of q) in
    subst (λ n. HasNodes c.args.nodes.now.may (parts (let_in n q))) (sym c.network.ensures)
    (piece c.args.nodes.now.may (recipes.minus left right) left (minus-first left right) (may_like c.args.nodes.now.may (forwarded plane q) (recipes.minus left right) (sym (forwarded_is plane q)) c.requires.may))

pub owned_set-requires-clause-made : goal.owned_set-requires-clause-made
owned_set-requires-clause-made g c = made_kept c.args.nodes.now c.args.site.now.plane.now c.args.site.now.position c.args.made.now c.args.work.now c.let_in_set.new.work c.requires.made c.in_ok-let_in.ensures.seat c.in_ok-let_in.ensures.keeps

pub owned_set-requires-clause-may : goal.owned_set-requires-clause-may
owned_set-requires-clause-may g c =
    let plane = c.args.site.now.plane.now in
    let q = c.args.site.now.position in
    let left = let_in plane.network q in
    let right = to_router plane (router_of q) in
    piece c.args.nodes.now.may (recipes.minus left right) right (minus-second left right) (may_like c.args.nodes.now.may (forwarded plane q) (recipes.minus left right) (sym (forwarded_is plane q)) c.requires.may)

pub minus-requires-clause-may : goal.minus-requires-clause-may
minus-requires-clause-may g c =
    let plane = c.args.site.now.plane.now in
    let q = c.args.site.now.position in
    let left = let_in plane.network q in
    let right = to_router plane (router_of q) in
    may_minus c.args.nodes.now c.owned_set.new.work c.in_ok-let_in.let_in.index c.in_ok-owned.owned.index left right
    (c.in_ok-owned.ensures.keeps c.in_ok-let_in.let_in.index (tree left) (subst (λ n. SeatKnows c.let_in_set.new.work c.in_ok-let_in.let_in.index (tree (let_in n q))) c.network.ensures c.in_ok-let_in.ensures.set)) c.in_ok-owned.ensures.set
    (may_like c.args.nodes.now.may (forwarded plane q) (recipes.minus left right) (sym (forwarded_is plane q)) c.requires.may)

pub returns-clause-made : goal.returns-clause-made
returns-clause-made g c =
    let plane = c.args.site.now.plane.now in
    let q = c.args.site.now.position in
    let left = let_in plane.network q in
    let right = to_router plane (router_of q) in
    let m = made_kept c.args.nodes.now plane q c.owned_set.new.made c.owned_set.new.work c.minus.new.self c.in_ok-owned.ensures.made c.in_ok-set.ensures.seat c.in_ok-set.ensures.keeps in
    with_forwarded c.args.nodes.now plane q c.owned_set.new.made _ c.minus.new.self m refl refl refl c.in_ok-set.set refl
    (subst (λ r. SeatKnows c.minus.new.self c.in_ok-set.set.index (tree r)) (forwarded_is plane q)
    (c.in_ok-set.ensures.minus (tree left) (tree right) (c.in_ok-owned.ensures.keeps c.in_ok-let_in.let_in.index (tree left) (subst (λ n. SeatKnows c.let_in_set.new.work c.in_ok-let_in.let_in.index (tree (let_in n q))) c.network.ensures c.in_ok-let_in.ensures.set)) c.in_ok-owned.ensures.set))

pub returns-clause-set : goal.returns-clause-set
returns-clause-set g c =
    let plane = c.args.site.now.plane.now in
    let q = c.args.site.now.position in
    let left = let_in plane.network q in
    let right = to_router plane (router_of q) in
    subst (λ r. SeatKnows c.minus.new.self c.in_ok-set.set.index (tree r)) (forwarded_is plane q)
    (c.in_ok-set.ensures.minus (tree left) (tree right) (c.in_ok-owned.ensures.keeps c.in_ok-let_in.let_in.index (tree left) (subst (λ n. SeatKnows c.let_in_set.new.work c.in_ok-let_in.let_in.index (tree (let_in n q))) c.network.ensures c.in_ok-let_in.ensures.set)) c.in_ok-owned.ensures.set)

pub returns-clause-keeps : goal.returns-clause-keeps
returns-clause-keeps g c = λ r t k. c.in_ok-set.ensures.keeps r t (c.in_ok-owned.ensures.keeps r t (c.in_ok-let_in.ensures.keeps r t k))
