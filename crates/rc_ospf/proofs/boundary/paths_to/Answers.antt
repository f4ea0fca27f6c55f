use Rattle.std.proofs.Common.{rules, ◌≡◌, ◌+◌, ◌++◌, ◌∷◌, [], drop, ap, sym, ◌∙◌, subst, All, IfSome}
use Rattle.std.proofs.lemmas.List.{drop_more}
use Rattle.rc_ospf.specs.BoundaryForms.{path_of_target}
use Rattle.rc_ospf.specs.BoundaryPaths.{IsNear}
use Rattle.rc_ospf.specs.Members.{known}
use Rattle.rc_ospf.specs.declared.member.StubAreas.TheVariants.{LeftOut}
use Rattle.rc_ospf.proofs.ListLaws.{all_more, found_more, none_more}
use Rattle.rc_ospf.proofs.boundary.paths_to.Goals.{in-Some+in_ok-push, in_default}
use Rattle.rc_ospf.proofs.boundary.paths_to.Goals as goal

pub loop-target-preserved : goal.loop-target-preserved
loop-target-preserved c =
    let all = c.args.targets.now in
    let i = c.loop-target.target-index in
    let x = c.target-item.result in
    let f = path_of_target (known LeftOut c.args.member.now) in
    let old = c.loop-target.paths in
    let left = drop (i + 1) all in
    let so_far = c.loop-target.invariant in
    let next : drop i all ≡ x ∷ left = drop_more all i x c.loop-target-test.true ∙ ap (λ y. y ∷ left) (sym c.target-item.is) in
    elim c.match-branch-2.branch [
      | in-Some+in_ok-push w ↦ (let pushed : w.push.new.self ≡ old ++ w.in-Some.path ∷ [] = search rules in record {
        value = found_more f old c.match-branch-2.paths x left (drop i all) _ next so_far.value w.in-Some.path (sym c.in_ok-path.ensures.value ∙ w.in-Some.is) (w.paths-is ∙ pushed);
        near = all_more IsNear old c.match-branch-2.paths w.in-Some.path (w.paths-is ∙ pushed) so_far.near (subst (λ o. IfSome o IsNear) w.in-Some.is c.in_ok-path.ensures.near);
      })
      | in_default w ↦ record {
        value = none_more f old c.match-branch-2.paths x left (drop i all) _ next so_far.value (sym c.in_ok-path.ensures.value ∙ w.in_default.is) w.paths-is;
        near = subst (All IsNear) (sym w.paths-is) so_far.near;
      }
    ]
