use Rattle.std.proofs.Common.{◌-◌}
use Rattle.rc_base.specs.Header.{bit_count}
use Rattle.rc_cubes.proofs.cubes_of.+later.Given as goal

abbrev pub decreases-later : goal.decreases-later
decreases-later g l = bit_count - l.from
