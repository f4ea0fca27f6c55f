use Rattle.std.proofs.Common.{◌-◌}
use Rattle.rc_spread.proofs.united.+by_sides.Given as goal

abbrev pub decreases-by_sides : goal.decreases-by_sides
decreases-by_sides g l = 32 - l.bit
