use Rattle.std.proofs.Common.{refl, ◌∙◌, ap, sym, subst, map, List, All}
use Rattle.rc_route.specs.Tables.{IsTable}
use Rattle.rc_route.specs.declared.route.Route.{Route}
use Rattle.rc_ospf.specs.Internal.{adverts_in}
use Rattle.rc_ospf.specs.declared.model.Internal.{Internal}
use Rattle.rc_ospf.specs.Routes.{internal_routes}
use Rattle.rc_ospf.proofs.HoldingLaws.{all_asked}
use Rattle.rc_ospf.proofs.tables.internal_by.Goals as goal

pub returns-clause-internal : goal.returns-clause-internal
returns-clause-internal g c =
    let net = c.args.net.now in
    let alike = c.requires.alike in
    let whole : Internal = record { links = c.args.links; routes = map (internal_routes alike.routers (adverts_in net)) alike.routers; boundaries = c.in_ok-boundaries.boundaries; own = c.in_ok-own.own } in
    let made = c.in_ok-routes.ensures.value ∙ alike.routes in (
      whole,
      record {
        routers = alike.routers;
        as_many = alike.as_many;
        are_routers = alike.are_routers;
        routes = refl;
        boundaries = c.in_ok-boundaries.ensures.value ∙ alike.boundaries;
        own = c.in_ok-own.ensures;
      },
      ap (λ (routes : List (List Route)). record whole { routes = routes }) made,
    )

pub returns-clause-in_order : goal.returns-clause-in_order
returns-clause-in_order g c = subst (All IsTable) (sym c.in_ok-routes.ensures.value) (all_asked _ _ _ _)
