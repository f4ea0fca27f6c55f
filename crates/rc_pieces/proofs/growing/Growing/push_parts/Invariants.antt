use Rattle.std.proofs.Common.{◌≡◌, ◌++◌, length}
use Rattle.rc_pieces.proofs.growing.Growing.push_parts.Given as goal

-- what is made, the part in the making, and what is left behind it, is all
abbrev pub invariant-loop-item : goal.invariant-loop-item
invariant-loop-item g l = l.fn.self ++ l.fn.items ≡ l.self ++ (l.part ++ l.left.items)

abbrev pub decreases-loop-item : goal.decreases-loop-item
decreases-loop-item g l = length l.left.items
