use Rattle.std.proofs.Common.{length, ◌-◌}
use Rattle.rc_sectors.proofs.cut.+put_below.Given as goal

abbrev pub decreases-put_below : goal.decreases-put_below
decreases-put_below l = 32 - length l.sector
