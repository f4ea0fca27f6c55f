use Rattle.std.proofs.Common.{◌≡◌, length}
use Rattle.rc_openings.specs.Words.{words_left}
use Rattle.rc_gram_bgp.specs.Redistributions.{beside, kinds_in_front}
use Rattle.rc_gram_bgp.proofs.redistributions.kinds_in_front.Given as goal

-- the kinds so far beside those of what is left
abbrev pub invariant-loop-more : goal.invariant-loop-more
invariant-loop-more l = beside l.kinds (kinds_in_front (words_left l.rest)) ≡ kinds_in_front (words_left l.fn.words)

abbrev pub decreases-loop-more : goal.decreases-loop-more
decreases-loop-more l = length (words_left l.rest)
