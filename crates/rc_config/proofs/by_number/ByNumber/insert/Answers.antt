use Rattle.std.proofs.Common.{sym, subst, ap, ◌∙◌}
use Rattle.rc_config.specs.ByNumber.{AreRows, placed, with_number}
use Rattle.rc_config.proofs.ByNumberLaws.{in_order, lookup_is, insert_is, insert_rows}
use Rattle.rc_config.proofs.by_number.ByNumber.insert.Goals as goal

pub returns-in_err-before-clause-by_number : goal.returns-in_err-before-clause-by_number
returns-in_err-before-clause-by_number g c =
    let number = g.T.Numbered.number in
    in_order number c.insert.new.self.entries (subst (AreRows number) (sym c.in_err-before.ensures.err) c.self.invariant)

pub invariant_of-self-2 : goal.invariant_of-self-2
invariant_of-self-2 g c =
    let told = c.in_ok-before.ensures in
    insert_rows g.T.Numbered.number c.number.result c.args.item c.self.inside.rows.entries c.insert.new.self.entries c.number.ensures told.entries c.self.invariant told.ordered

pub returns-clause-placed : goal.returns-clause-placed
returns-clause-placed g c =
    let number = g.T.Numbered.number in
    insert_is number c.number.result c.args.item c.self.inside.rows.entries c.insert.new.self.entries c.number.ensures c.in_ok-before.ensures.entries c.self.invariant
    ∙ ap (placed number c.args.item) c.self.view_is

pub returns-clause-before : goal.returns-clause-before
returns-clause-before g c =
    let number = g.T.Numbered.number in
    c.in_ok-before.ensures.old ∙ lookup_is number c.number.result c.self.inside.rows.entries c.self.invariant
    ∙ ap (with_number number c.number.result) c.self.view_is ∙ ap (λ n. with_number number n c.args.self.now) c.number.ensures

pub returns-clause-by_number : goal.returns-clause-by_number
returns-clause-by_number g c = in_order g.T.Numbered.number c.insert.new.self.entries (invariant_of-self-2 g c)
