use Rattle.std.proofs.Common.{List, length}
use Rattle.rc_route.specs.declared.route.Route.{Route}
use Rattle.rc_alone.proofs.LayingLaws.{AreLeft}
use Rattle.rc_alone.proofs.laying.Laying.finish.Given as goal

abbrev pub invariant-loop-route : goal.invariant-loop-route
invariant-loop-route l = (table : List Route) → AreLeft table l.fn.self.connected.items l.fn.self.made → AreLeft table l.left.items l.made

abbrev pub decreases-loop-route : goal.decreases-loop-route
decreases-loop-route l = length l.left.items
