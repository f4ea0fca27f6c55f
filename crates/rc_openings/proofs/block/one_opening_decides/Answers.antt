use Rattle.rc_openings.proofs.ApartLemmas.{one_opening_decides}
use Rattle.rc_openings.proofs.block.one_opening_decides.Goals as goal

pub returns : goal.returns
returns c = one_opening_decides
