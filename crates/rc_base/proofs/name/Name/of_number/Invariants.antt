use Rattle.std.proofs.Common.{◌≡◌, ◌≤◌, ◌++◌, drop, length}
use Rattle.std.specs.Fmt.{decimal}
use Rattle.rc_base.proofs.name.Name.of_number.Given as goal

-- the digits of what is left, and those that are written
abbrev pub invariant-loop-left : goal.invariant-loop-left
invariant-loop-left l = record {
  same : decimal l.left ++ drop l.start l.text ≡ decimal l.fn.number;
  room : length (decimal l.left) ≤ l.start;
  within : l.start ≤ 10;
  long : length l.text ≡ 10;
}

abbrev pub decreases-loop-left : goal.decreases-loop-left
decreases-loop-left l = l.left
