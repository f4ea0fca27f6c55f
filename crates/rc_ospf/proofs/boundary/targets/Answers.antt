use Rattle.std.proofs.Common.{map, subst, ◌∙◌}
use Rattle.std.proofs.lemmas.Result.{IfOk-weaker}
use Rattle.rc_ospf.specs.Boundaries.{boundary_routers}
use Rattle.rc_ospf.specs.Members.{known}
use Rattle.rc_shares.specs.Making.{AreMade}
use Rattle.rc_ospf.specs.Wanted.{IsTarget}
use Rattle.rc_ospf.specs.declared.member.StubAreas.TheVariants.{LeftOut}
use Rattle.rc_ospf.proofs.boundary.targets.Goals as goal

pub made_at_once-requires-clause-fits : goal.made_at_once-requires-clause-fits
made_at_once-requires-clause-fits g c κs within = λ k d lt. c.has_border.ensures

pub returns : goal.returns
returns g c =
    let net = c.args.net.now in
    let routers = map (known LeftOut) c.args.members.now in
    IfOk-weaker c.made_at_once.result _ (AreMade (IsTarget net routers) (boundary_routers net))
    (λ ts made. subst (λ ss. AreMade (IsTarget net routers) ss ts) (c.as_slice.ensures ∙ c.in_ok-routers.ensures) made) c.made_at_once.ensures
