use Rattle.std.proofs.Common.{◌≡◌, ◌++◌, drop}
use Rattle.rc_external.specs.Routes.{routes_over}
use Rattle.rc_external.proofs.routes.routes_over.Given as goal

abbrev pub invariant-loop-row : goal.invariant-loop-row
invariant-loop-row l = l.routes ++ routes_over l.paths (drop l.row-index l.rows) ≡ routes_over l.paths l.rows
