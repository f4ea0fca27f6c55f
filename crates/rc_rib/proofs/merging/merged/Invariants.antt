use Rattle.std.proofs.Common.{◌≡◌, ◌++◌, ◌+◌, length}
use Rattle.rc_rib.specs.Merging.{merged}
use Rattle.rc_rib.proofs.merging.merged.Given as goal

abbrev pub invariant-loop-route : goal.invariant-loop-route
invariant-loop-route l = l.routes ++ merged l.first.items l.second.items ≡ merged l.fn.first l.fn.second

abbrev pub decreases-loop-route : goal.decreases-loop-route
decreases-loop-route l = length l.first.items + length l.second.items
