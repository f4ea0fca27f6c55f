use Rattle.std.proofs.Common.{map, subst, ◌∙◌}
use Rattle.std.proofs.lemmas.Result.{IfOk-weaker}
use Rattle.rc_ospf.specs.Members.{known}
use Rattle.rc_ospf.specs.Routes.{rows_asked, with_default}
use Rattle.rc_shares.specs.Making.{AreMade}
use Rattle.rc_ospf.specs.Wanted.{IsDestination}
use Rattle.rc_ospf.specs.declared.member.StubAreas.TheVariants.{Kept}
use Rattle.rc_ospf.proofs.destination.destinations.Goals as goal

pub made_at_once-requires-clause-fits : goal.made_at_once-requires-clause-fits
made_at_once-requires-clause-fits g c κs within = λ k d lt. c.has_border.ensures

pub returns : goal.returns
returns g c =
    let routers = map (known Kept) c.args.members.now in
    IfOk-weaker c.made_at_once.result _ (AreMade (IsDestination routers) (rows_asked c.args.asked (with_default c.args.rows)))
    (λ ds made. subst (λ rows. AreMade (IsDestination routers) rows ds) (c.as_slice.ensures ∙ c.in_ok-rows.ensures) made) c.made_at_once.ensures
