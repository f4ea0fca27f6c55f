use Rattle.std.proofs.Common.{◌≡◌, length, drop}
use Rattle.rc_openings.specs.Words.{words_left, words_of}
use Rattle.rc_openings.proofs.opening.Opening.behind_words.Given as goal

abbrev pub invariant-loop-words : goal.invariant-loop-words
invariant-loop-words l = drop (length (words_left l.words)) (words_left l.rest) ≡ drop (length (words_of l.fn.self.text.now)) (words_left l.fn.line)

abbrev pub decreases-loop-words : goal.decreases-loop-words
decreases-loop-words l = length (words_left l.words)
