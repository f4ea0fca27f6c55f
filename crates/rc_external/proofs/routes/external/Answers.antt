use Rattle.std.proofs.Common.{sym, subst}
use Rattle.rc_external.specs.Externals.{IsByPrefix}
use Rattle.rc_external.proofs.OrderLaws.{routes_in_order}
use Rattle.rc_external.proofs.routes.external.Goals as goal

pub returns-clause-in_order : goal.returns-clause-in_order
returns-clause-in_order c = routes_in_order _ c.in_ok-paths.paths c.as_slice.result.now (subst IsByPrefix (sym c.as_slice.ensures) c.requires) c.routes_over.ensures
