use Rattle.std.proofs.Common.{◌≤◌, subst}
use Rattle.std.specs.Prelude.{All}
use Rattle.rc_config.proofs.ByNumberLaws.{greatest_is}
use Rattle.rc_config.proofs.by_number.ByNumber.greatest.Goals as goal

pub returns-in-Some-clause-greatest : goal.returns-in-Some-clause-greatest
returns-in-Some-clause-greatest g c =
    let number = g.T.Numbered.number in
    subst (All (λ x. number x ≤ c.in-Some.number.now)) c.self.view_is (greatest_is number c.in-Some.number.now c.self.inside.rows.entries c.self.invariant c.in-Some.ensures.all_up_to)
