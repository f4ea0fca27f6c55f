use Rattle.std.proofs.Common.{◌≡◌, ◌∙◌, ◌∷◌, ap}
use Rattle.rc_bgp.specs.Candidates.{best_with_further}
use Rattle.rc_bgp.proofs.ListLaws.{one_row}
use Rattle.rc_bgp.proofs.deciding.best_of_each.Goals as goal

pub loop-candidates-preserved : goal.loop-candidates-preserved
loop-candidates-preserved c =
    let steps : c.loop-candidates.candidates-iterator ≡ (c.in-Some.field-0-0, c.in-Some.candidates) ∷ c.next.new.self = c.in-Some.ensures.steps in
    one_row (λ row. best_with_further c.args.most row.1) (c.in-Some.field-0-0, c.in-Some.candidates) c.loop-candidates.candidates-iterator c.next.new.self c.loop-candidates.paths c.push_some.new.paths _ c.in_ok-best.best
    steps (c.in_ok-best.ensures ∙ ap (best_with_further c.args.most) c.into_vec.ensures) c.in_ok-push_some.ensures c.loop-candidates.invariant
