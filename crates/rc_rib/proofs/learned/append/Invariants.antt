use Rattle.std.proofs.Common.{◌≡◌, ◌++◌, length}
use Rattle.rc_rib.proofs.learned.append.Given as goal

-- what is made, and what is left behind it, is all
abbrev pub invariant-loop-route : goal.invariant-loop-route
invariant-loop-route l = l.initial.made ++ l.fn.left.items ≡ l.made ++ l.left.items

abbrev pub decreases-loop-route : goal.decreases-loop-route
decreases-loop-route l = length l.left.items
