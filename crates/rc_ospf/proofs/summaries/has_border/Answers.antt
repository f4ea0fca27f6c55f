use Rattle.std.proofs.Common.{◌≡◌, ◌+◌, ◌∷◌, false, drop, sym, ◌∙◌, ap}
use Rattle.std.proofs.lemmas.List.{drop_more}
use Rattle.rc_ospf.specs.Members.{is_border_at}
use Rattle.rc_ospf.specs.RouterAreas.{is_border}
use Rattle.rc_ospf.proofs.SummaryLaws.{one_less}
use Rattle.rc_ospf.proofs.summaries.has_border.Goals as goal

pub loop-member-preserved : goal.loop-member-preserved
loop-member-preserved c =
    let ms = c.args.members.now in
    let i = c.loop-member.member-index in
    let m = c.member-item.result in
    let next : drop i ms ≡ m ∷ drop (i + 1) ms = drop_more ms i m c.loop-member-test.true ∙ ap (λ x. x ∷ drop (i + 1) ms) (sym c.member-item.is) in
    let fails : is_border_at c.args.stubs m ≡ false = sym (c.is_border.ensures ∙ ap is_border c.areas.ensures) ∙ c.if-is_border.false in
    one_less c.args.stubs m (drop i ms) (drop (i + 1) ms) _ next fails c.loop-member.invariant
