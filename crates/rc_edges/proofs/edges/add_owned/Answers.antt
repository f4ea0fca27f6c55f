use Rattle.std.proofs.Common.{refl, inl, [], ◌∷◌}
use Rattle.rc_edges.proofs.GiveLaws.{get_each, gives_after, may_give}
use Rattle.rc_router_sets.proofs.JoinLaws.{may_and, piece}
use Rattle.rc_router_sets.proofs.MadeLaws.{made_kept, whenever}
use Rattle.rc_router_sets.specs.Sent.{to_interface}
use Rattle.rc_router_sets.specs.Steps.{step_at}
use Rattle.rc_router_sets.specs.declared.hop_steps.Step.TheVariants.{Leaving}
use Rattle.rc_trees.proofs.PartLaws.{and-first, and-second}
use Rattle.rc_trees.specs.Recipes as recipes
use Rattle.rc_trees.specs.Recipes.{tree}
use Rattle.rc_edges.proofs.edges.add_owned.Goals as goal

pub step_set-requires-clause-may : goal.step_set-requires-clause-may
step_set-requires-clause-may g c =
    let left = step_at c.args.site.now.plane.now c.args.site.now.position Leaving c.args.at.now.hop in
    let right = to_interface c.args.site.now.plane.now c.args.next.now in
    piece c.args.nodes.now.may (recipes.and left right) left (and-first left right) (get_each c.args.nodes.now c.args.work.now c.args.row.now c.args.onto (recipes.and left right ∷ []) c.requires.may (recipes.and left right) (inl refl))

pub interface_set-requires-clause-may : goal.interface_set-requires-clause-may
interface_set-requires-clause-may g c =
    let left = step_at c.args.site.now.plane.now c.args.site.now.position Leaving c.args.at.now.hop in
    let right = to_interface c.args.site.now.plane.now c.args.next.now in
    piece c.args.nodes.now.may (recipes.and left right) right (and-second left right) (get_each c.args.nodes.now c.args.work.now c.args.row.now c.args.onto (recipes.and left right ∷ []) c.requires.may (recipes.and left right) (inl refl))

pub and-requires-clause-may : goal.and-requires-clause-may
and-requires-clause-may g c =
    let left = step_at c.args.site.now.plane.now c.args.site.now.position Leaving c.args.at.now.hop in
    let right = to_interface c.args.site.now.plane.now c.args.next.now in
    may_and c.args.nodes.now c.interface_set.new.work c.in_ok-leaving.leaving.index c.in_ok-there.there.index left right (c.in_ok-there.ensures.keeps c.in_ok-leaving.leaving.index (tree left) c.in_ok-leaving.ensures.set) c.in_ok-there.ensures.set
    (get_each c.args.nodes.now c.args.work.now c.args.row.now c.args.onto (recipes.and left right ∷ []) c.requires.may (recipes.and left right) (inl refl))

pub add-requires-clause-may : goal.add-requires-clause-may
add-requires-clause-may g c =
    let left = step_at c.args.site.now.plane.now c.args.site.now.position Leaving c.args.at.now.hop in
    let right = to_interface c.args.site.now.plane.now c.args.next.now in
    may_give c.args.nodes.now c.args.work.now c.args.row.now c.args.onto c.and.new.self c.in_ok-owned.owned.index (recipes.and left right) c.requires.may
    (λ r t k. c.in_ok-owned.ensures.keeps r t (c.in_ok-there.ensures.keeps r t (c.in_ok-leaving.ensures.keeps r t k)))
    (c.in_ok-owned.ensures.and (tree left) (tree right) (c.in_ok-there.ensures.keeps c.in_ok-leaving.leaving.index (tree left) c.in_ok-leaving.ensures.set) c.in_ok-there.ensures.set)

pub returns-clause-made : goal.returns-clause-made
returns-clause-made g c =
    whenever c.add.result _ (made_kept c.args.nodes.now c.args.site.now.plane.now c.args.site.now.position c.step_set.new.made c.step_set.new.work c.add.new.work c.in_ok-leaving.ensures.made c.add.ensures.seat
    (λ r t k. c.add.ensures.keeps r t (c.in_ok-owned.ensures.keeps r t (c.in_ok-there.ensures.keeps r t k))))

pub returns-clause-given : goal.returns-clause-given
returns-clause-given g c =
    let left = step_at c.args.site.now.plane.now c.args.site.now.position Leaving c.args.at.now.hop in
    let right = to_interface c.args.site.now.plane.now c.args.next.now in
    gives_after c.args.work.now c.and.new.self c.add.new.work c.args.row.now c.add.new.self c.args.onto c.in_ok-owned.owned.index (recipes.and left right) c.add.result
    (λ r t k. c.in_ok-owned.ensures.keeps r t (c.in_ok-there.ensures.keeps r t (c.in_ok-leaving.ensures.keeps r t k)))
    (c.in_ok-owned.ensures.and (tree left) (tree right) (c.in_ok-there.ensures.keeps c.in_ok-leaving.leaving.index (tree left) c.in_ok-leaving.ensures.set) c.in_ok-there.ensures.set) c.add.ensures.added

pub returns-clause-keeps : goal.returns-clause-keeps
returns-clause-keeps g c = λ r t k. c.add.ensures.keeps r t (c.in_ok-owned.ensures.keeps r t (c.in_ok-there.ensures.keeps r t (c.in_ok-leaving.ensures.keeps r t k)))

pub returns-in_err-there-clause-keeps : goal.returns-in_err-there-clause-keeps
returns-in_err-there-clause-keeps g c = λ r t k. c.interface_set.ensures.keeps r t (c.in_ok-leaving.ensures.keeps r t k)

pub returns-in_err-owned-clause-keeps : goal.returns-in_err-owned-clause-keeps
returns-in_err-owned-clause-keeps g c = λ r t k. c.and.ensures.keeps r t (c.in_ok-there.ensures.keeps r t (c.in_ok-leaving.ensures.keeps r t k))
