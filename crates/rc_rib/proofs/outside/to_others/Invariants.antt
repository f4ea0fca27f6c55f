use Rattle.std.proofs.Common.{◌≡◌, ◌++◌, length}
use Rattle.rc_rib.specs.Next.{to_others}
use Rattle.rc_rib.proofs.outside.to_others.Given as goal

abbrev pub invariant-loop-route : goal.invariant-loop-route
invariant-loop-route l = l.others ++ to_others l.internal l.router l.left.items ≡ to_others l.internal l.router l.fn.routes

abbrev pub decreases-loop-route : goal.decreases-loop-route
decreases-loop-route l = length l.left.items
