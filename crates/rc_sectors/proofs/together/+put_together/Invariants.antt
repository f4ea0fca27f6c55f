use Rattle.std.proofs.Common.{◌-◌}
use Rattle.rc_sectors.proofs.together.+put_together.Given as goal

abbrev pub decreases-put_together : goal.decreases-put_together
decreases-put_together g l = 32 - l.bits
