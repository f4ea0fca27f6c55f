use Rattle.std.proofs.Common.{◌-◌}
use Rattle.rc_base.specs.Header.{bit_count}
use Rattle.rc_cubes.proofs.cubes_of.+first.Given as goal

abbrev pub decreases-first : goal.decreases-first
decreases-first g l = bit_count - l.from
