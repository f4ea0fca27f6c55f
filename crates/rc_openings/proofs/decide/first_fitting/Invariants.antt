use Rattle.std.proofs.Common.{map, take}
use Rattle.rc_openings.specs.Words.{words_of}
use Rattle.rc_openings.specs.Opening.{NoneFits, row_of}
use Rattle.rc_openings.proofs.decide.first_fitting.Given as goal

abbrev pub invariant-loop-opening : goal.invariant-loop-opening
invariant-loop-opening l = NoneFits (map row_of (take l.opening-index l.openings)) (words_of l.text)
