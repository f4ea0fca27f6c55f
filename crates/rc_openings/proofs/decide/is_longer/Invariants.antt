use Rattle.std.proofs.Common.{◌≡◌, length, nat_lt}
use Rattle.rc_openings.specs.Words.{words_left}
use Rattle.rc_openings.proofs.decide.is_longer.Given as goal

abbrev pub invariant-loop-first : goal.invariant-loop-first
invariant-loop-first l =
    nat_lt (length (words_left l.fn.second)) (length (words_left l.fn.first)) ≡ nat_lt (length (words_left l.second)) (length (words_left l.first))

abbrev pub decreases-loop-first : goal.decreases-loop-first
decreases-loop-first l = length (words_left l.first)
