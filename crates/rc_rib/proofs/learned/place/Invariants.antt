use Rattle.std.proofs.Common.{◌≡◌, ◌++◌, ◌∷◌, List, length}
use Rattle.rc_route.specs.declared.route.Route.{Route}
use Rattle.rc_rib.specs.Merging.{merged}
use Rattle.rc_rib.proofs.learned.place.Given as goal

-- with the route and any behind it all is as at the start
abbrev pub invariant-loop-left : goal.invariant-loop-left
invariant-loop-left l = (rest : List Route) → l.initial.made ++ merged l.initial.left.items (l.route ∷ rest) ≡ l.made ++ merged l.left.items (l.route ∷ rest)

abbrev pub decreases-loop-left : goal.decreases-loop-left
decreases-loop-left l = length l.left.items
