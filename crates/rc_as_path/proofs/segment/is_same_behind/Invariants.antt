use Rattle.std.proofs.Common.{◌≡◌, length, nat_eq}
use Rattle.std.specs.Cmp.Lexicographic.{pointwise}
use Rattle.rc_as_path.specs.Numbers.{numbers}
use Rattle.rc_as_path.proofs.segment.is_same_behind.Given as goal

-- what is left is as long on both sides, and the same exactly where all is
abbrev pub invariant-loop-left : goal.invariant-loop-left
invariant-loop-left l = (length (numbers l.left) ≡ length (numbers l.right)) × (pointwise nat_eq (numbers l.left) (numbers l.right) ≡ pointwise nat_eq (numbers l.one) (numbers l.other))
