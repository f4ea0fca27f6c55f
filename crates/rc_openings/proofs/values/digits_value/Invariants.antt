use Rattle.std.proofs.Common.{◌≡◌, ◌≤◌, drop}
use Rattle.rc_openings.specs.Values.{digits_from}
use Rattle.rc_openings.proofs.values.digits_value.Given as goal

abbrev pub invariant-loop-digit : goal.invariant-loop-digit
invariant-loop-digit l = record {
  small : l.value ≤ l.limit;
  same : digits_from l.value (drop l.digit-index l.digits) ≡ digits_from 0 l.digits;
}
