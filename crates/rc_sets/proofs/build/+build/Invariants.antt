use Rattle.std.proofs.Common.{◌-◌}
use Rattle.rc_sets.proofs.build.+build.Given as goal

abbrev pub decreases-build : goal.decreases-build
decreases-build g l = 32 - l.depth
