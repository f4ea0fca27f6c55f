use Rattle.std.proofs.Common.{rules}
use Rattle.std.proofs.lemmas.List.Sorted.{answers_always}
use Rattle.rc_route.proofs.BisectLaws.{bisected}
use Rattle.rc_route.proofs.listed.place_of.Goals as goal

-- the closure gives the prefix
pub returns : goal.returns
returns g c =
    let facts = c.binary_search_by_key.ensures in
    let by_code = facts.position g.T.HasPrefix.prefix_of (answers_always _ _ _ (λ f a r h called. search rules)) in
    bisected g.T.HasPrefix.prefix_of c.args.listed.now c.requires c.args.prefix.now c.binary_search_by_key.result facts.bound by_code
