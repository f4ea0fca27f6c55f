use Rattle.rc_openings.proofs.ApartLemmas.{answer_is}
use Rattle.rc_openings.proofs.block.Block.opening_of.Goals as goal

pub returns-clause-computed : goal.returns-clause-computed
returns-clause-computed c = answer_is c.args.self _ _ c.found.ensures
