use Rattle.std.proofs.Common.{◌≡◌, ◌==◌}
use Rattle.std.specs.List.{list_any}
use Rattle.rc_as_path.specs.Numbers.{numbers}
use Rattle.rc_as_path.proofs.segment.holds.Given as goal

abbrev pub invariant-loop-left : goal.invariant-loop-left
invariant-loop-left l = list_any (λ a. a == l.asn) (numbers l.left) ≡ list_any (λ a. a == l.asn) (numbers l.tail)
