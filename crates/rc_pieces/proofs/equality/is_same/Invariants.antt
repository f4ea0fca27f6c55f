use Rattle.std.proofs.Common.{◌≡◌, ◌<◌, ℕ}
use Rattle.std.specs.List.{slice_get}
use Rattle.rc_pieces.proofs.equality.is_same.Given as goal

-- each router before this one knows the same
abbrev pub invariant-loop-index : goal.invariant-loop-index
invariant-loop-index l = (k : ℕ) → k < l.index → slice_get l.a k ≡ slice_get l.b k
