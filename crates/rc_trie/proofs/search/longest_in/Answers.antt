use Rattle.std.proofs.Common.{sym, ◌∙◌, length, refl}
use Rattle.std.proofs.lemmas.Option.{MatchOption-at_some, slice_get_read, slice_get_within}
use Rattle.rc_trie.specs.Tree.{IsLongestAt}
use Rattle.rc_trie.proofs.ScanLaws.{longest_is_at}
use Rattle.rc_trie.proofs.search.longest_in.Goals as goal

pub bounds-rows-place : goal.bounds-rows-place
bounds-rows-place g c =
    let f = g.T.HasPrefix.prefix_of in
    let at : IsLongestAt f c.args.rows.now c.args.addr c.in-Some.place = MatchOption-at_some _ _ _ c.in-Some.is c.longest_at-place.ensures in
    slice_get_within c.args.rows.now c.in-Some.place at.thing at.is

pub returns-in-Some : goal.returns-in-Some
returns-in-Some g c =
    let f = g.T.HasPrefix.prefix_of in
    let at : IsLongestAt f c.args.rows.now c.args.addr c.in-Some.place = MatchOption-at_some _ _ _ c.in-Some.is c.longest_at-place.ensures in
    sym (longest_is_at f c.args.addr c.args.rows.now c.in-Some.place at
    ∙ slice_get_read c.args.rows.now (length c.args.rows.now) c.in-Some.place c.index-rows-place.result refl (slice_get_within c.args.rows.now c.in-Some.place at.thing at.is) c.index-rows-place.is)
