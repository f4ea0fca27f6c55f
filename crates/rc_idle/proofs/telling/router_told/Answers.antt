use Rattle.std.proofs.Common.{◌∙◌, ◌≡◌, ◌++◌, ap, refl, rules, Some, slice_get}
use Rattle.rc_sets.specs.LinesQuery.{idle_in}
use Rattle.rc_idle.proofs.ListLaws.{lists_are, router_is}
use Rattle.rc_idle.proofs.telling.router_told.Goals as goal

pub returns : goal.returns
returns c behind is =
    let net = c.args.network.now in
    let r = c.args.router in
    let name = c.in-Some.name.now in
    let text = c.in-Some.text.now in
    let there : slice_get net.routers r ≡ Some (name, text) = search rules in
    let (are, rest) = c.in_ok-lists.ensures behind (is ∙ ap (λ ls. idle_in (ls ++ behind)) (lists_are net r name text there)) in
    (router_is net r name text _ there refl are, rest)
