use Rattle.std.proofs.Common.{refl, ap, sym, ◌∙◌, subst}
use Rattle.rc_router_sets.proofs.GroupLaws.{everything}
use Rattle.rc_router_sets.proofs.JoinLaws.{may_like}
use Rattle.rc_router_sets.proofs.MadeLaws.{known_some, made_kept, noted}
use Rattle.rc_router_sets.proofs.StepLaws.{everything_is, fixed_is}
use Rattle.rc_router_sets.specs.HopParts.{part_in, parts_of}
use Rattle.rc_router_sets.specs.Made.{IsKnownIfMade}
use Rattle.rc_router_sets.specs.Steps.{fixed, part_at}
use Rattle.rc_nodes.specs.Seats.{SeatKnows}
use Rattle.rc_trees.specs.Recipes.{parts, tree}
use Rattle.rc_trees.specs.Trees.{HasNodes}
use Rattle.std.specs.Prelude.{slice_get}
use Rattle.rc_moves.specs.Moves.{router_of}
use Rattle.rc_router_sets.proofs.router_sets.part_set.Goals as goal

pub returns-then-is_everything-clause-set : goal.returns-then-is_everything-clause-set
returns-then-is_everything-clause-set g c =
    everything c.args.work.now (part_at c.args.site.now.plane.now c.args.site.now.position c.args.part c.args.at.now.hop)
    (everything_is c.args.site.now.plane.now c.args.site.now.position c.args.at.now.hop c.args.part (sym c.is_everything.ensures ∙ c.if-is_everything.true))

pub returns-in-Some-clause-set : goal.returns-in-Some-clause-set
returns-in-Some-clause-set g c =
    let plane = c.args.site.now.plane.now in
    let q = c.args.site.now.position in
    let x = c.args.at.now.hop in
    let m = c.requires.made in
    let is = fixed_is plane q x c.args.part (sym c.is_everything.ensures ∙ c.if-is_everything.false) in
    known_some c.args.work.now c.part.result (part_at plane q c.args.part x) c.in-Some.set c.in-Some.is
    (subst (λ o. IsKnownIfMade c.args.work.now o (part_at plane q c.args.part x)) (sym (c.part.ensures ∙ ap (λ s. part_in s c.args.part) (c.parts_at.ensures ∙ ap (λ xs. parts_of xs c.args.at.now.index) c.as_slice.ensures.value)))
    (subst (IsKnownIfMade c.args.work.now (part_in (parts_of c.args.made.now.parts.items c.args.at.now.index) c.args.part)) is
    (m.parts c.args.at.now.index x c.args.part (ap (λ hs. slice_get hs c.args.at.now.index) m.hops ∙ c.requires.at))))

pub new_part-requires-clause-may : goal.new_part-requires-clause-may
new_part-requires-clause-may g c =
    let plane = c.args.site.now.plane.now in
    let q = c.args.site.now.position in
    let x = c.args.at.now.hop in
    let is = fixed_is plane q x c.args.part (sym c.is_everything.ensures ∙ c.if-is_everything.false) in
    subst (λ r. HasNodes c.args.nodes.now.may (parts (fixed plane r c.args.part x))) (sym c.router.ensures) (may_like c.args.nodes.now.may (part_at plane q c.args.part x) (fixed plane (router_of q) c.args.part x) (sym is) c.requires.may)

pub returns-clause-made : goal.returns-clause-made
returns-clause-made g c =
    let plane = c.args.site.now.plane.now in
    let q = c.args.site.now.position in
    let x = c.args.at.now.hop in
    let m = made_kept c.args.nodes.now plane q c.args.made.now c.args.work.now c.new_part.new.work c.requires.made c.in_ok-set.ensures.seat c.in_ok-set.ensures.keeps in
    noted c.args.nodes.now plane q c.args.made.now _ c.new_part.new.work m refl refl refl c.args.at.now.index x c.args.part c.in_ok-set.set c.requires.at c.note.ensures
    (subst (λ n. SeatKnows c.new_part.new.work c.in_ok-set.set.index (tree (fixed plane n c.args.part x))) c.router.ensures c.in_ok-set.ensures.set)

pub returns-clause-set : goal.returns-clause-set
returns-clause-set g c =
    let plane = c.args.site.now.plane.now in
    let q = c.args.site.now.position in
    let x = c.args.at.now.hop in
    let is = fixed_is plane q x c.args.part (sym c.is_everything.ensures ∙ c.if-is_everything.false) in
    subst (λ s. SeatKnows c.new_part.new.work c.in_ok-set.set.index (tree s)) (ap (λ n. fixed plane n c.args.part x) c.router.ensures ∙ is) c.in_ok-set.ensures.set
