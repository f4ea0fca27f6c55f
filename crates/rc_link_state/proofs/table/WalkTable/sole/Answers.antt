use Rattle.std.proofs.Common.{◌≡◌, [], ◌∷◌, Some, IfSome, sym, ap, subst, ◌∙◌}
use Rattle.std.specs.Prelude.{option_and_then}
use Rattle.std.specs.Option.{option_copied}
use Rattle.rc_link_state.specs.Adjacency.{hop_of}
use Rattle.rc_link_state.specs.Tables.{walks_in}
use Rattle.rc_link_state.specs.declared.table.AreaWalks.{AreaWalks}
use Rattle.rc_link_state.proofs.TableLaws.{told_there}
use Rattle.rc_link_state.proofs.table.WalkTable.sole.Goals as goal

pub returns-in-Some-clause-walks : goal.returns-in-Some-clause-walks
returns-in-Some-clause-walks c =
    subst (λ o. IfSome c.sole_inside.result (λ sole. o ≡ Some (record { cost = sole.cost; hops = hop_of sole.step.now ∷ [] })))
    (sym (told_there c.args.self.now c.args.from c.args.area c.args.to (sym c.eq.ensures ∙ c.if-eq.false) (option_copied c.found-found.result) c.found-found.ensures.value
    ∙ ap (λ o. option_and_then (λ (w : AreaWalks). walks_in w c.args.from c.args.to) (option_copied o)) c.in-Some.is))
    c.sole_inside.ensures.walks
