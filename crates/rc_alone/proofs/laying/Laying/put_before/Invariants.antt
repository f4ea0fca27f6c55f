use Rattle.std.proofs.Common.{◌≡◌, ◌∷◌, [], length}
use Rattle.rc_route.specs.declared.route.Route.{Route}
use Rattle.rc_alone.specs.Laying.{GoesOn}
use Rattle.rc_alone.proofs.laying.Laying.put_before.Given as goal

abbrev pub invariant-loop-route : goal.invariant-loop-route
invariant-loop-route l = (r : Route) → r.prefix ≡ l.prefix → GoesOn l.fn.self l.self (r ∷ []) (r ∷ [])

abbrev pub decreases-loop-route : goal.decreases-loop-route
decreases-loop-route l = length l.self.connected.items
