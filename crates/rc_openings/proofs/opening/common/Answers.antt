use Rattle.std.proofs.Common.{arith, sym}
use Rattle.std.proofs.lemmas.Bool.Decides.{nat_tests}
use Rattle.rc_openings.proofs.CommonLemmas.{common_is}
use Rattle.rc_openings.proofs.opening.common.Goals as goal

pub returns-then-first-count-clause-count : goal.returns-then-first-count-clause-count
returns-then-first-count-clause-count c =
    sym (common_is c.args.first.now c.args.second.now c.loop-count.count (omega arith) (omega arith) c.loop-count.invariant (λ x y. grind (arith, nat_tests)))

pub returns-clause-count : goal.returns-clause-count
returns-clause-count c =
    sym (common_is c.args.first.now c.args.second.now c.min-most.result (omega arith) (omega arith) (λ k h. c.loop-count.invariant k (omega arith)) (λ x y. absurd (omega arith)))
