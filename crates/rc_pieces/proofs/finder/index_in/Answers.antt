use Rattle.std.proofs.Common.{◌∙◌, rules, sym}
use Rattle.std.proofs.lemmas.List.Sorted.{answers_always}
use Rattle.rc_route.proofs.BisectLaws.{bisected}
use Rattle.rc_pieces.proofs.FindLaws.{none_there}
use Rattle.rc_pieces.proofs.finder.index_in.Goals as goal

pub returns-then-begins_behind-clause-absent : goal.returns-then-begins_behind-clause-absent
returns-then-begins_behind-clause-absent g c = none_there g.T.HasPrefix.prefix_of c.args.prefix.now c.args.items.now c.requires (sym c.begins_behind.ensures ∙ c.if-begins_behind.true)

-- the closure gives the prefix
pub returns : goal.returns
returns g c =
    let facts = c.binary_search_by_key.ensures in
    let by_code = facts.position g.T.HasPrefix.prefix_of (answers_always _ _ _ (λ f a r h called. search rules)) in
    bisected g.T.HasPrefix.prefix_of c.args.items.now c.requires c.args.prefix.now c.binary_search_by_key.result facts.bound by_code
