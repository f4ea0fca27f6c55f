use Rattle.std.proofs.Common.{◌≡◌, sym, ap, subst, ◌∙◌, IfOk}
use Rattle.std.specs.Prelude.{option_and_then}
use Rattle.std.specs.List.Sorted.{IsStrictlySortedBy}
use Rattle.std.specs.Option.{option_copied}
use Rattle.rc_route.specs.Hops.{hop_cmp}
use Rattle.rc_link_state.specs.declared.table.AreaWalks.{AreaWalks}
use Rattle.rc_link_state.specs.Tables.{hops_of, walks_in}
use Rattle.rc_link_state.proofs.TableLaws.{all_rise, rises, told_here, told_there}
use Rattle.rc_link_state.proofs.table.WalkTable.hops.Goals as goal

pub returns-then-eq-clause-value : goal.returns-then-eq-clause-value
returns-then-eq-clause-value c = c.none.ensures ∙ sym (ap hops_of (told_here c.args.self.now c.args.from c.args.area c.args.to (sym c.eq.ensures ∙ c.if-eq.true)))

pub returns-then-eq-clause-in_order : goal.returns-then-eq-clause-in_order
returns-then-eq-clause-in_order c = subst (IsStrictlySortedBy hop_cmp) (sym (returns-then-eq-clause-value c)) (rises c.args.self.now c.args.from c.args.area c.args.to)

pub returns-in-Some-clause-value : goal.returns-in-Some-clause-value
returns-in-Some-clause-value c =
    subst (λ o. IfOk c.hops_inside.result (λ hops. hops ≡ hops_of o))
    (sym (told_there c.args.self.now c.args.from c.args.area c.args.to (sym c.eq.ensures ∙ c.if-eq.false) (option_copied c.found-found.result) c.found-found.ensures.value
    ∙ ap (λ o. option_and_then (λ (w : AreaWalks). walks_in w c.args.from c.args.to) (option_copied o)) c.in-Some.is))
    c.hops_inside.ensures

pub returns-in-Some-clause-in_order : goal.returns-in-Some-clause-in_order
returns-in-Some-clause-in_order c = all_rise c.args.self.now c.args.from c.args.area c.args.to c.hops_inside.result (returns-in-Some-clause-value c)

pub returns-in-None-clause-value : goal.returns-in-None-clause-value
returns-in-None-clause-value c =
    c.none-in-None.ensures
    ∙ sym (ap hops_of (told_there c.args.self.now c.args.from c.args.area c.args.to (sym c.eq.ensures ∙ c.if-eq.false) (option_copied c.found-found.result) c.found-found.ensures.value
    ∙ ap (λ o. option_and_then (λ (w : AreaWalks). walks_in w c.args.from c.args.to) (option_copied o)) c.in-None.is))

pub returns-in-None-clause-in_order : goal.returns-in-None-clause-in_order
returns-in-None-clause-in_order c = subst (IsStrictlySortedBy hop_cmp) (sym (returns-in-None-clause-value c)) (rises c.args.self.now c.args.from c.args.area c.args.to)
