use Rattle.rc_openings.proofs.FrontLemmas.{front_decides}
use Rattle.rc_openings.proofs.block.front_decides.Goals as goal

pub returns : goal.returns
returns c = front_decides
