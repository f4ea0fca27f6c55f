use Rattle.rc_openings.proofs.FrontLemmas.{form_has_front}
use Rattle.rc_openings.proofs.block.form_has_front.Goals as goal

pub returns : goal.returns
returns c = form_has_front
