use Rattle.std.proofs.Common.{◌≡◌, ◌∙◌, sym, subst, append-nil, [], All}
use Rattle.std.proofs.lemmas.Result.{IfOk-weaker}
use Rattle.rc_ospf.specs.Members.{table_of}
use Rattle.rc_ospf.specs.Routes.{IsShortRoute}
use Rattle.rc_ospf.proofs.TakingLaws.{all_listed}
use Rattle.rc_ospf.proofs.routes.routes_of.Goals as goal

pub returns-clause-value : goal.returns-clause-value
returns-clause-value c =
    let start = c.in_ok-listing.listing in
    let taken = all_listed start.routes c.take_routes.new.taking.routes _ c.in_ok-listing.ensures (c.in_ok-take_routes.ensures start [] (sym (append-nil start.routes), λ short. short)) in
    IfOk-weaker c.finish.result _ (λ routes. routes ≡ table_of c.args.destinations.now c.args.member.now) (λ routes are. are ∙ taken.0) c.finish.ensures

pub returns-clause-short : goal.returns-clause-short
returns-clause-short c =
    let start = c.in_ok-listing.listing in
    let taken = all_listed start.routes c.take_routes.new.taking.routes _ c.in_ok-listing.ensures (c.in_ok-take_routes.ensures start [] (sym (append-nil start.routes), λ short. short)) in
    IfOk-weaker c.finish.result _ (All IsShortRoute) (λ routes are. subst (All IsShortRoute) (sym are) taken.1) c.finish.ensures
