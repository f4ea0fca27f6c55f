use Rattle.std.proofs.Common.{rules, ◌≡◌, ◌==◌, true, false, cond, if◌then◌else◌, [], ◌∷◌, ◌++◌, sym, ap, ◌∙◌, arith}
use Rattle.std.proofs.lemmas.Bool.Decides.{nat_tests}
use Rattle.std.proofs.lemmas.List.FromFn.{map-range_with_len_more}
use Rattle.rc_nodes.specs.declared.words.Ref.{Ref}
use Rattle.rc_jobs.specs.Flows.{no_header, any_header}
use Rattle.rc_spread.proofs.first.first_sets.Goals as goal
use Rattle.rc_spread.proofs.first.first_sets.Goals.{then-place-q, else-place-q}

pub loop-q-preserved : goal.loop-q-preserved
loop-q-preserved c =
    let here : Ref = if c.args.place == c.loop-q.q then any_header else no_header in
    let put : c.if-place-q.push ≡ here = elim c.if-place-q.branch [
      | then-place-q w ↦ (let e : (c.args.place == c.loop-q.q) ≡ true = grind (arith, nat_tests) in w.push-is ∙ sym (ap (λ b. cond b any_header no_header) e))
      | else-place-q w ↦ (let e : (c.args.place == c.loop-q.q) ≡ false = grind (arith, nat_tests) in w.push-is ∙ sym (ap (λ b. cond b any_header no_header) e))
    ] in
    let pushed : c.push.new.self.items ≡ c.loop-q.sets.items ++ c.if-place-q.push ∷ [] = search rules in
    pushed ∙ (λ i. c.loop-q.invariant i ++ put i ∷ []) ∙ sym (map-range_with_len_more (λ q. if c.args.place == q then any_header else no_header) 0 c.loop-q.q c.loop-q.q (omega arith))
