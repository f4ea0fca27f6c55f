use Rattle.rc_cubes.proofs.CoverLaws.{tight}
use Rattle.rc_cubes.proofs.laws.free_bits_are_zero.Goals as goal

pub returns : goal.returns
returns c = tight
