use Rattle.std.proofs.Common.{◌≤◌, subst}
use Rattle.rc_sets.proofs.IntervalLaws.{known_empty, known_past, known_all}
use Rattle.rc_sets.proofs.interval.at_once.Goals as goal

pub returns-then-low-end : goal.returns-then-low-end
returns-then-low-end c = known_empty c.args.count c.args.low c.args.end c.if-low-end.true

pub returns-then-low-numbers : goal.returns-then-low-numbers
returns-then-low-numbers c = known_past c.args.count c.args.low c.args.end (subst (λ n. n ≤ c.args.low) c.numbers-numbers.ensures c.if-low-numbers.true)

pub returns-then-end-numbers : goal.returns-then-end-numbers
returns-then-end-numbers c = known_all c.args.count c.args.low c.args.end c.if-low-eq0.true (subst (λ n. n ≤ c.args.end) c.numbers-numbers.ensures c.if-end-numbers.true)
