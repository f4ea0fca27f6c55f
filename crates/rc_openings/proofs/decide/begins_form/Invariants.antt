use Rattle.std.proofs.Common.{◌≡◌, false, map, take}
use Rattle.rc_openings.specs.Words.{words_left}
use Rattle.rc_openings.specs.Opening.{row_of, begins_form}
use Rattle.rc_openings.proofs.decide.begins_form.Given as goal

abbrev pub invariant-loop-opening : goal.invariant-loop-opening
invariant-loop-opening l = begins_form (map row_of (take l.opening-index l.openings)) (words_left l.line) ≡ false
