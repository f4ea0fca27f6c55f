use Rattle.std.proofs.Common.{ap, ◌∙◌, subst}
use Rattle.rc_config.specs.ByNumber.{IsByNumber, with_number, without_number}
use Rattle.rc_config.proofs.ByNumberLaws.{in_order, lookup_is, remove_is, remove_rows}
use Rattle.rc_config.proofs.by_number.ByNumber.take.Goals as goal

pub invariant_of-self : goal.invariant_of-self
invariant_of-self g c = remove_rows g.T.Numbered.number c.args.number c.self.inside.rows.entries c.remove.new.self.entries c.remove.ensures.entries c.self.invariant c.remove.ensures.ordered

pub returns-clause-taken : goal.returns-clause-taken
returns-clause-taken g c =
    let number = g.T.Numbered.number in
    c.remove.ensures.value ∙ lookup_is number c.args.number c.self.inside.rows.entries c.self.invariant ∙ ap (with_number number c.args.number) c.self.view_is

pub returns-clause-others : goal.returns-clause-others
returns-clause-others g c =
    let number = g.T.Numbered.number in
    remove_is number c.args.number c.self.inside.rows.entries c.remove.new.self.entries c.remove.ensures.entries c.self.invariant ∙ ap (without_number number c.args.number) c.self.view_is

pub returns-clause-by_number : goal.returns-clause-by_number
returns-clause-by_number g c = in_order g.T.Numbered.number c.remove.new.self.entries (invariant_of-self g c)

pub returns-clause-were_by_number : goal.returns-clause-were_by_number
returns-clause-were_by_number g c = subst (IsByNumber g.T.Numbered.number) c.self.view_is (in_order g.T.Numbered.number c.self.inside.rows.entries c.self.invariant)
