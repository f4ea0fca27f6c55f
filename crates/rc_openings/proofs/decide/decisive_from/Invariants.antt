use Rattle.std.proofs.Common.{List, ◌++◌, map, take}
use Rattle.std.specs.Option.{option_copied, option_map}
use Rattle.rc_openings.specs.Words.{words_of}
use Rattle.rc_openings.specs.Opening.{IsAnswer, Row, row_of}
use Rattle.rc_openings.proofs.decide.decisive_from.Given as goal

abbrev pub invariant-loop-opening : goal.invariant-loop-opening
invariant-loop-opening l =
    (rows : List Row) → IsAnswer rows (words_of l.text) (option_map row_of (option_copied l.best)) → IsAnswer (rows ++ map row_of (take l.opening-index l.openings)) (words_of l.text) (option_map row_of (option_copied l.decided))
