use Rattle.std.proofs.Common.{sym, subst}
use Rattle.rc_base.specs.declared.ending.Kind.TheVariants.{DeniedIn}
use Rattle.rc_router_sets.proofs.JoinLaws.{known_like, may_like, may_minus, operated, piece}
use Rattle.rc_router_sets.proofs.UseLaws.{denied_in_is}
use Rattle.rc_router_sets.specs.Endings.{end}
use Rattle.rc_router_sets.specs.Sent.{let_in}
use Rattle.rc_nodes.proofs.KnownLaws.{knows_always}
use Rattle.rc_nodes.specs.Seats.{SeatKnows}
use Rattle.rc_trees.proofs.PartLaws.{minus-second}
use Rattle.rc_trees.specs.Combine as trees
use Rattle.rc_trees.specs.Recipes as recipes
use Rattle.rc_trees.specs.Recipes.{given, parts, tree}
use Rattle.rc_trees.specs.Trees.{always, HasNodes}
use Rattle.rc_edges.proofs.endings.denied_in_set.Goals as goal

pub let_in_set-requires-clause-may : goal.let_in_set-requires-clause-may
let_in_set-requires-clause-may g c =
    let plane = c.args.site.now.plane.now in
    let q = c.args.site.now.position in
    let whole = recipes.minus (given always) (let_in plane.network q) in
    subst (λ n. HasNodes c.args.nodes.now.may (parts (let_in n q))) (sym c.network.ensures)
    (piece c.args.nodes.now.may whole (let_in plane.network q) (minus-second (given always) (let_in plane.network q)) (may_like c.args.nodes.now.may (end plane q DeniedIn) whole (sym (denied_in_is plane q)) c.requires.may))

pub minus-requires-clause-may : goal.minus-requires-clause-may
minus-requires-clause-may g c =
    let plane = c.args.site.now.plane.now in
    let q = c.args.site.now.position in
    let whole = recipes.minus (given always) (let_in plane.network q) in
    may_minus c.args.nodes.now c.let_in_set.new.work 1 c.in_ok-let_in.let_in.index (given always) (let_in plane.network q) (knows_always c.let_in_set.new.work)
    (subst (λ n. SeatKnows c.let_in_set.new.work c.in_ok-let_in.let_in.index (tree (let_in n q))) c.network.ensures c.in_ok-let_in.ensures.set)
    (may_like c.args.nodes.now.may (end plane q DeniedIn) whole (sym (denied_in_is plane q)) c.requires.may)

pub returns-clause-set : goal.returns-clause-set
returns-clause-set g c =
    let plane = c.args.site.now.plane.now in
    let q = c.args.site.now.position in
    known_like c.minus.new.self c.minus.result (recipes.minus (given always) (let_in plane.network q)) (end plane q DeniedIn) (denied_in_is plane q)
    (operated c.let_in_set.new.work c.minus.new.self trees.minus 1 c.in_ok-let_in.let_in.index always (tree (let_in plane.network q)) (knows_always c.let_in_set.new.work)
    (subst (λ n. SeatKnows c.let_in_set.new.work c.in_ok-let_in.let_in.index (tree (let_in n q))) c.network.ensures c.in_ok-let_in.ensures.set) c.minus.result c.minus.ensures.minus)
