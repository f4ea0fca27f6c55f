use Rattle.std.proofs.Common.{◌≡◌, length}
use Rattle.std.specs.List.{list_any}
use Rattle.std.specs.Str.{bytes_eq}
use Rattle.rc_openings.specs.Words.{words_left}
use Rattle.rc_gram_if.proofs.rows.is_one_of.Given as goal

abbrev pub invariant-loop-other : goal.invariant-loop-other
invariant-loop-other l = list_any (bytes_eq l.word) (words_left l.words) ≡ list_any (bytes_eq l.word) (words_left l.fn.words)

abbrev pub decreases-loop-other : goal.decreases-loop-other
decreases-loop-other l = length (words_left l.words)
