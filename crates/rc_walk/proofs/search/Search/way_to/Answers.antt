use Rattle.std.proofs.Common.{rules, ◌≡◌, ◌<◌, [], ◌∷◌, ◌++◌, append-nil, length, reverse, slice_index, ap, sym, ◌∙◌, subst, append_assoc, arith}
use Rattle.rc_walk.specs.Searching.{WaysBack, at_first, further}
use Rattle.rc_walk.proofs.SearchState.{index_is}
use Rattle.rc_walk.proofs.search.Search.way_to.Goals as goal

pub loop-at-preserved : goal.loop-at-preserved
loop-at-preserved c =
    let found = c.args.self.now.found in
    let from = c.args.self.now.from.items in
    let by = c.args.self.now.by.items in
    let at = c.loop-at.at in
    let some : 0 < at = omega arith in
    let fits : at < length found = c.loop-at.invariant.fits in
    let many : length from ≡ length found = c.requires.from in
    let many_by : length by ≡ length found = c.requires.by in
    let next : slice_index from at ≡ c.index-at.result.now = index_is from at c.index-at.result.now (omega arith) c.index-at.ensures in
    let choice : slice_index by at ≡ c.index.result.now = index_is by at c.index.result.now (omega arith) c.index.ensures in
    let earlier : slice_index from at < at = c.requires.linked at some fits in
    let pushed : c.push.new.self.items ≡ c.loop-at.positions.items ++ c.at.result ∷ [] = search rules in
    let chosen : c.push-in-loop-at.new.self.items ≡ c.loop-at.choices.items ++ c.index.result.now ∷ [] = search rules in
    record {
      fits = omega arith;
      so_far = λ ps cs back.
          let on : WaysBack found from by at (c.at.result ∷ ps) (c.index.result.now ∷ cs) = subst (λ x. WaysBack found from by at (c.at.result ∷ ps) (x ∷ cs)) choice (further some c.at.ensures (subst (λ j. WaysBack found from by j ps cs) (sym next) back)) in
          let all = c.loop-at.invariant.so_far (c.at.result ∷ ps) (c.index.result.now ∷ cs) on in
          let positions = subst (λ xs. WaysBack found from by c.args.place xs (c.loop-at.choices.items ++ c.index.result.now ∷ cs)) (sym (ap (λ xs. xs ++ ps) pushed ∙ append_assoc c.loop-at.positions.items (c.at.result ∷ []) ps)) all in
          subst (λ xs. WaysBack found from by c.args.place (c.push.new.self.items ++ ps) xs) (sym (ap (λ xs. xs ++ cs) chosen ∙ append_assoc c.loop-at.choices.items (c.index.result.now ∷ []) cs)) positions;
    }

pub returns : goal.returns
returns c =
    let found = c.args.self.now.found in
    let from = c.args.self.now.from.items in
    let by = c.args.self.now.by.items in
    let first : c.loop-at.at ≡ 0 = omega arith in
    let pushed : c.push-2.new.self.items ≡ c.loop-at.positions.items ++ c.at-2.result ∷ [] = search rules in
    let back = c.loop-at.invariant.so_far (c.at-2.result ∷ []) [] (subst (λ j. WaysBack found from by j (c.at-2.result ∷ []) []) (sym first) (at_first c.at-2.ensures)) in
    (c.loop-at.positions.items ++ c.at-2.result ∷ [], c.loop-at.choices.items, subst (WaysBack found from by c.args.place (c.loop-at.positions.items ++ c.at-2.result ∷ [])) (append-nil c.loop-at.choices.items) back, c.reverse.ensures.items ∙ ap reverse pushed, c.reverse-2.ensures.items)
