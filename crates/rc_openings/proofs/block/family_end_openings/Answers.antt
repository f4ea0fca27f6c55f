use Rattle.std.proofs.Common.{refl}
use Rattle.rc_openings.specs.Words.{words_of}
use Rattle.rc_openings.proofs.block.family_end_openings.Goals as goal

pub returns : goal.returns
unfolding words_of
returns c = refl
