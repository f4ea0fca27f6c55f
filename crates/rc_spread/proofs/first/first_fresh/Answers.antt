use Rattle.std.proofs.Common.{rules, ◌≡◌, ◌==◌, [], ◌∷◌, ◌++◌, sym, ap, ◌∙◌, arith}
use Rattle.std.proofs.lemmas.List.FromFn.{map-range_with_len_more}
use Rattle.rc_spread.proofs.first.first_fresh.Goals as goal

pub loop-q-preserved : goal.loop-q-preserved
loop-q-preserved c =
    let pushed : c.push.new.self.items ≡ c.loop-q.fresh.items ++ (c.args.place == c.loop-q.q) ∷ [] = search rules in
    pushed ∙ ap (λ xs. xs ++ (c.args.place == c.loop-q.q) ∷ []) c.loop-q.invariant ∙ sym (map-range_with_len_more (λ q. c.args.place == q) 0 c.loop-q.q c.loop-q.q (omega arith))
