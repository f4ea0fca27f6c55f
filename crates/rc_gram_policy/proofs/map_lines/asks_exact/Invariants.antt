use Rattle.std.proofs.Common.{◌≡◌, length}
use Rattle.rc_openings.specs.Words.{words_left}
use Rattle.rc_gram_policy.specs.MapLines.{asks_exact}
use Rattle.rc_gram_policy.proofs.map_lines.asks_exact.Given as goal

abbrev pub invariant-loop-word : goal.invariant-loop-word
invariant-loop-word l = asks_exact (words_left l.rest) ≡ asks_exact (words_left l.fn.words)

abbrev pub decreases-loop-word : goal.decreases-loop-word
decreases-loop-word l = length (words_left l.rest)
