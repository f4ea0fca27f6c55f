use Rattle.std.proofs.Common.{ap, ◌∙◌}
use Rattle.rc_config.specs.ByNumber.{has_number}
use Rattle.rc_config.proofs.ByNumberLaws.{has_is}
use Rattle.rc_config.proofs.by_number.ByNumber.has.Goals as goal

pub returns : goal.returns
returns g c =
    let number = g.T.Numbered.number in
    c.contains_key.ensures ∙ has_is number c.args.number c.self.inside.rows.entries c.self.invariant ∙ ap (has_number number c.args.number) c.self.view_is
