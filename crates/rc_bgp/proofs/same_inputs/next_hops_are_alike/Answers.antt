use Rattle.std.proofs.Common.{◌≡◌, refl, subst, true, false, List}
use Rattle.std.proofs.lemmas.Result.{IfOk-weaker}
use Rattle.std.specs.List.{AllByRecursion}
use Rattle.rc_route.specs.declared.route.Route.{Route}
use Rattle.rc_bgp.specs.Changes.{IsToldAlike}
use Rattle.rc_bgp.specs.RouterStates.{paths_of, table_of}
use Rattle.rc_bgp.specs.Telling.{may_tell, offered}
use Rattle.rc_bgp.proofs.AlikeLaws.{told_alike}
use Rattle.rc_bgp.proofs.same_inputs.next_hops_are_alike.Goals as goal

pub returns : goal.returns
returns c =
    let r = c.args.router in
    let old = c.args.earlier.now in
    let now = c.args.previous.now in
    let s = c.args.session.now in
    let told_over = offered c.args.inside.now now s in
    IfOk-weaker _ _ (λ are. are ≡ true → s.is_external ≡ false → AllByRecursion (IsToldAlike (table_of old r) (table_of now r)) (may_tell (paths_of now s.sender)))
    (λ are told is inside. told_alike (table_of old r) (table_of now r) c.args.inside.now now s told_over c.requires.inside refl inside
    (subst (λ (t : List Route). AllByRecursion (IsToldAlike t (table_of now r)) told_over) c.table_of.ensures.value
    (subst (λ (u : List Route). AllByRecursion (IsToldAlike c.table_of.result u) told_over) c.table_of-2.ensures.value (told is)))) c.are_offered_alike.ensures
