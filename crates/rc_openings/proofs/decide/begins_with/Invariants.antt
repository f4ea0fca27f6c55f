use Rattle.std.proofs.Common.{◌≡◌, length}
use Rattle.rc_openings.specs.Words.{words_left}
use Rattle.rc_openings.specs.Opening.{begins_with as begins}
use Rattle.rc_openings.proofs.decide.begins_with.Given as goal

abbrev pub invariant-loop-token : goal.invariant-loop-token
invariant-loop-token l =
    begins (words_left l.fn.line) (words_left l.fn.opening) ≡ begins (words_left l.line) (words_left l.opening)

abbrev pub decreases-loop-token : goal.decreases-loop-token
decreases-loop-token l = length (words_left l.opening)
