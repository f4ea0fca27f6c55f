use Rattle.std.proofs.Common.{◌≡◌, ◌∙◌, sym, subst, map, All}
use Rattle.std.proofs.lemmas.Result.{IfOk-weaker}
use Rattle.rc_ospf.specs.BoundaryForms.{target_of, boundary_paths}
use Rattle.rc_ospf.specs.BoundaryPaths.{IsNear}
use Rattle.rc_ospf.specs.Boundaries.{boundary_routers}
use Rattle.rc_ospf.specs.Members.{known}
use Rattle.rc_shares.specs.Making.{AreMade}
use Rattle.rc_ospf.specs.Wanted.{IsTarget}
use Rattle.rc_ospf.specs.declared.member.StubAreas.TheVariants.{LeftOut}
use Rattle.rc_shares.proofs.MakingLaws.{all_given, all_of_kind}
use Rattle.rc_ospf.proofs.WantedLaws.{boundaries_alike}
use Rattle.rc_ospf.proofs.tables.boundaries.Goals as goal

pub made_at_once-requires-clause-fits : goal.made_at_once-requires-clause-fits
made_at_once-requires-clause-fits g c κs within = λ k d lt. tt

pub returns-clause-near : goal.returns-clause-near
returns-clause-near g c = IfOk-weaker c.made_at_once.result _ (All (All IsNear)) (λ ps made. all_of_kind (boundary_paths c.as_slice.result.now) (All IsNear) c.args.members.now ps made) c.made_at_once.ensures

pub returns-clause-value : goal.returns-clause-value
returns-clause-value g c =
    let ms = c.args.members.now in
    let net = c.args.net.now in
    IfOk-weaker c.made_at_once.result _ (λ ps. ps ≡ map (boundary_paths (map (target_of net (map (known LeftOut) ms)) (boundary_routers net))) ms)
    (λ ps made. all_given (boundary_paths c.as_slice.result.now) (All IsNear) ms ps made ∙ boundaries_alike net ms (boundary_routers net) c.as_slice.result.now
    (subst (AreMade (IsTarget net (map (known LeftOut) ms)) (boundary_routers net)) (sym c.as_slice.ensures) c.in_ok-targets.ensures)) c.made_at_once.ensures
