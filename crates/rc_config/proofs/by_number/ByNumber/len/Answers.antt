use Rattle.std.proofs.Common.{subst}
use Rattle.rc_config.specs.ByNumber.{IsByNumber}
use Rattle.rc_config.proofs.ByNumberLaws.{in_order}
use Rattle.rc_config.proofs.by_number.ByNumber.len.Goals as goal

pub returns-clause-by_number : goal.returns-clause-by_number
returns-clause-by_number g c = subst (IsByNumber g.T.Numbered.number) c.self.view_is (in_order g.T.Numbered.number c.self.inside.rows.entries c.self.invariant)
