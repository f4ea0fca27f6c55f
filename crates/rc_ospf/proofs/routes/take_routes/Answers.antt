use Rattle.std.proofs.Common.{◌≡◌, ◌+◌, ◌∷◌, ◌∙◌, ap, sym, subst, drop}
use Rattle.std.proofs.lemmas.List.{drop_more}
use Rattle.rc_ospf.specs.ByPrefix.{destination_route}
use Rattle.rc_ospf.specs.Members.{known}
use Rattle.rc_ospf.specs.declared.destination.Destination.{Destination}
use Rattle.rc_ospf.specs.declared.member.StubAreas.TheVariants.{Kept}
use Rattle.rc_ospf.specs.declared.ospf_router.Member.{Member}
use Rattle.rc_ospf.proofs.TakingLaws.{AreTaken, one_more}
use Rattle.rc_ospf.proofs.routes.take_routes.Goals as goal

pub loop-destination-preserved : goal.loop-destination-preserved
loop-destination-preserved g c =
    let becomes = g.T.TakesRoutes.becomes in
    let m = known Kept c.args.member.now in
    let ds = c.args.destinations.now in
    let i = c.loop-destination.destination-index in
    let d = c.destination-item.result in
    let left : drop i ds ≡ d ∷ drop (i + 1) ds = drop_more ds i d c.loop-destination-test.true ∙ ap (λ (x : Destination). x ∷ drop (i + 1) ds) (sym c.destination-item.is) in
    one_more becomes m ds c.args.taking.now d (drop (i + 1) ds) c.loop-destination.taking c.take_route.new.taking (destination_route (known Kept c.in_ok-first.first) d)
    (ap (λ (x : Member). destination_route (known Kept x) d) c.in_ok-first.ensures) c.in_ok-take_route.ensures
    (subst (λ rest. AreTaken becomes m rest ds c.args.taking.now c.loop-destination.taking) left c.loop-destination.invariant)
