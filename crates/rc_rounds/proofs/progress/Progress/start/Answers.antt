use Rattle.std.proofs.Common.{arith}
use Rattle.rc_rounds.proofs.CheckpointLaws.{first-power}
use Rattle.rc_rounds.proofs.RoundLaws.{none_below}
use Rattle.rc_rounds.proofs.SettingLaws.{no_flags}
use Rattle.rc_rounds.proofs.progress.Progress.start.Goals as goal

pub returns-clause-made : goal.returns-clause-made
returns-clause-made c internal = record {
  under_way = record {
    last = c.in_ok-last.ensures.value;
    in_order = c.in_ok-last.ensures.in_order;
    before = λ same. absurd (omega (arith, same));
    checkpoint = first-power;
    within = omega arith;
    kept = λ less. absurd (omega (arith, less));
    earlier = none_below c.args.net.now internal;
  };
  before = λ some. absurd (omega (arith, some));
  before_in_order = rw c.new.ensures (λ k d less. absurd (omega (arith, less)));
  changes = λ some. absurd (omega (arith, some));
  stayed = no_flags _ _ _ c.new-3.ensures;
}
