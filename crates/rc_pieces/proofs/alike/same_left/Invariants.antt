use Rattle.std.proofs.Common.{◌≡◌, ◌↔◌, length}
use Rattle.rc_pieces.proofs.alike.same_left.Given as goal

-- what is left is the same exactly where all is
abbrev pub invariant-loop-item : goal.invariant-loop-item
invariant-loop-item g l = (l.items ≡ l.others) ↔ (l.initial.items ≡ l.initial.others)

abbrev pub decreases-loop-item : goal.decreases-loop-item
decreases-loop-item g l = length l.items
