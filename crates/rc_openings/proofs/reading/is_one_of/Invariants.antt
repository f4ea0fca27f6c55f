use Rattle.std.proofs.Common.{◌≡◌, [], ◌∷◌, length}
use Rattle.rc_openings.specs.Words.{words_left}
use Rattle.rc_openings.specs.Reading.{share_a_word}
use Rattle.rc_openings.proofs.reading.is_one_of.Given as goal

abbrev pub invariant-loop-other : goal.invariant-loop-other
invariant-loop-other l = share_a_word (l.word ∷ []) (words_left l.words) ≡ share_a_word (l.word ∷ []) (words_left l.fn.words)

abbrev pub decreases-loop-other : goal.decreases-loop-other
decreases-loop-other l = length (words_left l.words)
