use Rattle.std.proofs.Common.{sym, ap, ◌∙◌}
use Rattle.std.specs.Prelude.{option_and_then}
use Rattle.std.specs.Option.{option_copied}
use Rattle.rc_link_state.specs.declared.table.AreaWalks.{AreaWalks}
use Rattle.rc_link_state.specs.Tables.{cost_of, walks_in}
use Rattle.rc_link_state.proofs.TableLaws.{told_here, told_there}
use Rattle.rc_link_state.proofs.table.WalkTable.cost.Goals as goal

pub returns-then-eq-clause-value : goal.returns-then-eq-clause-value
returns-then-eq-clause-value c = sym (ap cost_of (told_here c.args.self.now c.args.from c.args.area c.args.to (sym c.eq.ensures ∙ c.if-eq.true)))

pub returns-in-Some-clause-value : goal.returns-in-Some-clause-value
returns-in-Some-clause-value c =
    c.cost_inside.ensures.value
    ∙ sym (ap cost_of (told_there c.args.self.now c.args.from c.args.area c.args.to (sym c.eq.ensures ∙ c.if-eq.false) (option_copied c.found-found.result) c.found-found.ensures.value
    ∙ ap (λ o. option_and_then (λ (w : AreaWalks). walks_in w c.args.from c.args.to) (option_copied o)) c.in-Some.is))

pub returns-in-None-clause-value : goal.returns-in-None-clause-value
returns-in-None-clause-value c =
    sym (ap cost_of (told_there c.args.self.now c.args.from c.args.area c.args.to (sym c.eq.ensures ∙ c.if-eq.false) (option_copied c.found-found.result) c.found-found.ensures.value
    ∙ ap (λ o. option_and_then (λ (w : AreaWalks). walks_in w c.args.from c.args.to) (option_copied o)) c.in-None.is))
