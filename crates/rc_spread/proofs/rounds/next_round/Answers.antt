use Rattle.std.proofs.Common.{◌≡◌, ℕ, ◌+◌, ◌<◌, length, ◌++◌, ◌==◌, false, not, slice_index_or, take, drop, ap, sym, subst, ◌∙◌, arith}
use Rattle.std.proofs.lemmas.Result.{IfOk-at_ok, IfOk-weaker}
use Rattle.std.proofs.Math.Seq.{take-append_seam}
use Rattle.rc_spread.specs.Known.{IsAfter, KnowsShare}
use Rattle.rc_jobs.specs.Flows.{no_header}
use Rattle.rc_spread.proofs.Rounding.{made_after, made_last}
use Rattle.rc_spread.proofs.rounds.next_round.Goals as goal

pub at_once_or_in_turn-work-requires-clause-ready : goal.at_once_or_in_turn-work-requires-clause-ready
at_once_or_in_turn-work-requires-clause-ready g c κs within =
    let sets = g.S.Spread.set_after c.args.spread.now in
    let n = g.S.Spread.count c.args.spread.now in
    let after = IfOk-at_ok (λ v. IsAfter c.args.work v.items c.args.fresh.now.items sets n c.args.number) c.in-Ok.is c.requires.before in
    record {
      ready = c.requires.ready;
      after = subst (λ rs. IsAfter c.args.work rs c.as_slice-2.result.now sets n c.args.number) (sym c.as_slice.ensures.value)
          (subst (λ fs. IsAfter c.args.work c.in-Ok.sets.items fs sets n c.args.number) (sym c.as_slice-2.ensures.value) after);
      further = c.requires.further;
    }

pub mark_made-changed-requires-clause-old : goal.mark_made-changed-requires-clause-old
mark_made-changed-requires-clause-old g c =
    let sets = g.S.Spread.set_after c.args.spread.now in
    let n = g.S.Spread.count c.args.spread.now in
    let after = IfOk-at_ok (λ v. IsAfter c.args.work v.items c.args.fresh.now.items sets n c.args.number) c.in-Ok.is c.requires.before in
    ap length c.as_slice-3.ensures.value ∙ after.as_many ∙ sym after.marks ∙ sym (ap length c.as_mut_slice.ensures.value)

pub mark_made-changed-requires-clause-made : goal.mark_made-changed-requires-clause-made
mark_made-changed-requires-clause-made g c =
    let sets = g.S.Spread.set_after c.args.spread.now in
    let n = g.S.Spread.count c.args.spread.now in
    let after = IfOk-at_ok (λ v. IsAfter c.args.work v.items c.args.fresh.now.items sets n c.args.number) c.in-Ok.is c.requires.before in
    let long : n ≡ length c.as_mut_slice.result.now = sym after.marks ∙ sym (ap length c.as_mut_slice.ensures.value) in
    IfOk-weaker c.at_once_or_in_turn-work.result.2 (λ v. KnowsShare c.at_once_or_in_turn-work.result.0 v.items (sets (c.args.number + 1)) 0 n) (λ v. length v.items ≡ length c.as_mut_slice.result.now)
    (λ v known. (let count = known.count in let many : length v.items ≡ n = omega arith in many ∙ long)) c.at_once_or_in_turn-work.ensures.made

pub returns-clause-after : goal.returns-clause-after
returns-clause-after g c =
    let sets = g.S.Spread.set_after c.args.spread.now in
    let n = g.S.Spread.count c.args.spread.now in
    let w = c.at_once_or_in_turn-work.result.0 in
    let marks = c.mark_made-changed.new.fresh in
    let after = IfOk-at_ok (λ v. IsAfter c.args.work v.items c.args.fresh.now.items sets n c.args.number) c.in-Ok.is c.requires.before in
    let before = after.marks in
    let many : length marks ≡ n = omega arith in
    let old = c.as_slice-3.ensures.value in
    let whole : take c.args.fresh.now.len (marks ++ drop (length marks) c.args.fresh.now.items) ≡ marks = (
    let long : c.args.fresh.now.len ≡ length marks = omega arith in
    ap (λ m. take m (marks ++ drop (length marks) c.args.fresh.now.items)) long ∙ take-append_seam marks (drop (length marks) c.args.fresh.now.items)) in
    let marked = IfOk-weaker c.at_once_or_in_turn-work.result.2 _ (λ v. (q : ℕ) → q < n → slice_index_or marks q false ≡ not ((slice_index_or c.in-Ok.sets.items q no_header).index == (slice_index_or v.items q no_header).index))
    (λ v h q less. h q (omega arith) ∙ (λ i. not ((slice_index_or (old i) q no_header).index == (slice_index_or v.items q no_header).index))) c.mark_made-changed.ensures.marked in
    rw whole (made_after (λ v. v.items) marks c.at_once_or_in_turn-work.ensures.seat c.at_once_or_in_turn-work.ensures.keeps after many c.at_once_or_in_turn-work.result.2 c.at_once_or_in_turn-work.ensures.made marked)

pub returns-clause-last : goal.returns-clause-last
returns-clause-last g c = λ none.
    let sets = g.S.Spread.set_after c.args.spread.now in
    let n = g.S.Spread.count c.args.spread.now in
    let marks = c.mark_made-changed.new.fresh in
    let after = IfOk-at_ok (λ v. IsAfter c.args.work v.items c.args.fresh.now.items sets n c.args.number) c.in-Ok.is c.requires.before in
    let before = after.marks in
    let many : length marks ≡ n = omega arith in
    let old = c.as_slice-3.ensures.value in
    let marked = IfOk-weaker c.at_once_or_in_turn-work.result.2 _ (λ v. (q : ℕ) → q < n → slice_index_or marks q false ≡ not ((slice_index_or c.in-Ok.sets.items q no_header).index == (slice_index_or v.items q no_header).index))
    (λ v h q less. h q (omega arith) ∙ (λ i. not ((slice_index_or (old i) q no_header).index == (slice_index_or v.items q no_header).index))) c.mark_made-changed.ensures.marked in
    let out = IfOk-weaker c.at_once_or_in_turn-work.result.2 _ (λ v. (q : ℕ) → q < n → slice_index_or marks q false ≡ false) (λ v h q less. h q (omega arith)) (c.mark_made-changed.ensures.none none) in
    made_last (λ v. v.items) marks c.at_once_or_in_turn-work.ensures.seat c.at_once_or_in_turn-work.ensures.keeps after many c.requires.still c.requires.further c.at_once_or_in_turn-work.result.2 c.at_once_or_in_turn-work.ensures.made marked out
