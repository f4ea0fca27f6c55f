use Rattle.std.proofs.Common.{◌≡◌, ◌∙◌, ap}
use Rattle.std.specs.Option.{option_map}
use Rattle.std.proofs.lemmas.Result.{IfOk-weaker}
use Rattle.rc_ospf.specs.Areas.{inter}
use Rattle.rc_ospf.specs.Boundaries.{path_over}
use Rattle.rc_ospf.specs.Members.{known}
use Rattle.rc_ospf.specs.RouterAreas.{is_in}
use Rattle.rc_ospf.specs.declared.member.StubAreas.TheVariants.{LeftOut}
use Rattle.rc_ospf.proofs.WayLaws.{inter_by}
use Rattle.rc_ospf.proofs.boundary.inter_path.Goals as goal

pub returns-clause-value : goal.returns-clause-value
returns-clause-value c =
    let m = c.args.member.now in
    let t = c.args.target.now in
    IfOk-weaker c.best_path.result _ (λ path. path ≡ option_map (path_over t.router) (inter (known LeftOut m) t.summaries))
    (λ path made. made ∙ ap (option_map (path_over t.router)) (inter_by (known LeftOut m) t.summaries _ _ (c.is_in_backbone-in_backbone.ensures ∙ ap (is_in 0) c.areas.ensures) c.summary_offers-offers.ensures)) c.best_path.ensures.value
