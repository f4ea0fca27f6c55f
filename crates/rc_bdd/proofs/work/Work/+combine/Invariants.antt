use Rattle.std.proofs.Common.{◌+◌, ◌*◌, ◌-◌}
use Rattle.rc_base.specs.Header.{bit_count}
use Rattle.rc_bdd.proofs.work.Work.+combine.Given as goal

abbrev pub decreases-combine : goal.decreases-combine
decreases-combine g l = 2 * (bit_count - l.from) + 1

abbrev pub decreases-combine_sides : goal.decreases-combine_sides
decreases-combine_sides g l = 2 * (bit_count - l.from)
