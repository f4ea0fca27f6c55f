use Rattle.std.proofs.Common.{refl}
use Rattle.rc_openings.specs.Words.{words_of}
use Rattle.rc_openings.specs.FamilyOpenings.{other_family}
use Rattle.rc_openings.proofs.block.other_family_openings.Goals as goal

pub returns : goal.returns
unfolding other_family words_of
returns c = refl
