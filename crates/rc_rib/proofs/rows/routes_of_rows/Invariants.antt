use Rattle.std.proofs.Common.{◌≡◌, ◌++◌, map}
use Rattle.rc_rib.proofs.rows.routes_of_rows.Given as goal

abbrev pub invariant-loop-prefix : goal.invariant-loop-prefix
invariant-loop-prefix g l = l.routes ++ map (λ row. g.V.MakesRoute.route row.0 row.1) l.prefix-iterator ≡ map (λ row. g.V.MakesRoute.route row.0 row.1) l.fn.rows.entries
