use Rattle.std.proofs.Common.{◌≡◌, ◌++◌, List, drop}
use Rattle.rc_route.specs.declared.route.Route.{Route}
use Rattle.rc_rib.specs.Merging.{merged}
use Rattle.rc_rib.specs.Next.{learned_routes}
use Rattle.rc_rib.proofs.learned.place_all.Given as goal

-- with the paths that are left and any routes behind them all is as at the start
abbrev pub invariant-loop-best : goal.invariant-loop-best
invariant-loop-best l =
    (rest : List Route) → l.initial.made ++ merged l.initial.left.items (learned_routes l.paths ++ rest) ≡ l.made ++ merged l.left.items (learned_routes (drop l.best-index l.paths) ++ rest)
