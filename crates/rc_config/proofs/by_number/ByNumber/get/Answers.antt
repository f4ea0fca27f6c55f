use Rattle.std.proofs.Common.{ap, ◌∙◌}
use Rattle.rc_config.specs.ByNumber.{with_number}
use Rattle.rc_config.proofs.ByNumberLaws.{lookup_is}
use Rattle.rc_config.proofs.by_number.ByNumber.get.Goals as goal

pub returns : goal.returns
returns g c =
    let number = g.T.Numbered.number in
    c.get.ensures.value ∙ lookup_is number c.args.number c.self.inside.rows.entries c.self.invariant ∙ ap (with_number number c.args.number) c.self.view_is
