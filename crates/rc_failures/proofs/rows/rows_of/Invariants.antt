use Rattle.rc_shares.specs.Stretches.{IsStretch}
use Rattle.rc_failures.specs.Shares.{IsRowAt}
use Rattle.rc_failures.proofs.rows.rows_of.Given as goal

abbrev pub invariant-loop-number : goal.invariant-loop-number
invariant-loop-number g l = IsStretch (IsRowAt l.net l.limit l.packet l.pairs) l.from l.number l.rows
