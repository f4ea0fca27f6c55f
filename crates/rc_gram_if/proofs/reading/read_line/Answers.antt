use Rattle.rc_openings.proofs.ReadingLaws.{given_says}
use Rattle.rc_gram_if.proofs.reading.read_line.Goals as goal

pub returns-clause-decided : goal.returns-clause-decided
returns-clause-decided c = given_says _ _ _ _ c.read_in.ensures.exact
