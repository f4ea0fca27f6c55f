use Rattle.std.proofs.Common.{◌-◌}
use Rattle.rc_base.specs.Header.{bit_count}
use Rattle.rc_bdd.proofs.work.Work.+meet.Given as goal

abbrev pub decreases-meet : goal.decreases-meet
decreases-meet g l = bit_count - l.from
