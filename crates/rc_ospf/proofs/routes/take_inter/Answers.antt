use Rattle.std.proofs.Common.{◌∙◌, ap, option_to_list}
use Rattle.std.specs.Option.{option_map}
use Rattle.rc_ospf.specs.Members.{areas_known, known}
use Rattle.rc_ospf.specs.RouterAreas.{is_in}
use Rattle.rc_ospf.specs.Routes.{internal_route_over}
use Rattle.rc_ospf.specs.declared.member.StubAreas.TheVariants.{Kept}
use Rattle.rc_route.specs.declared.route.Source.TheVariants.{OspfIa}
use Rattle.rc_ospf.proofs.TakingLaws.{same_taken}
use Rattle.rc_ospf.proofs.WayLaws.{inter_by}
use Rattle.rc_ospf.proofs.routes.take_inter.Goals as goal

pub returns : goal.returns
returns g c =
    let d = c.args.destination.now in
    same_taken g.T.TakesRoutes.becomes c.args.taking.now c.take_best.new.taking _ _
    (ap (λ o. option_to_list (option_map (internal_route_over OspfIa d.prefix) o))
    (inter_by (known Kept c.args.first.now) d.summaries _ _ (c.is_in_backbone-in_backbone.ensures ∙ ap (is_in 0) (c.areas.ensures ∙ ap (areas_known Kept) c.member.ensures)) c.summary_offers-offers.ensures))
    c.in_ok-take_best.ensures.takes
