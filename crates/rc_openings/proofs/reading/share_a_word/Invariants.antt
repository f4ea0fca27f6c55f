use Rattle.std.proofs.Common.{◌≡◌, length}
use Rattle.rc_openings.specs.Words.{words_left}
use Rattle.rc_openings.specs.Reading.{share_a_word}
use Rattle.rc_openings.proofs.reading.share_a_word.Given as goal

abbrev pub invariant-loop-word : goal.invariant-loop-word
invariant-loop-word l = share_a_word (words_left l.words) (words_left l.refused) ≡ share_a_word (words_left l.fn.words) (words_left l.refused)

abbrev pub decreases-loop-word : goal.decreases-loop-word
decreases-loop-word l = length (words_left l.words)
