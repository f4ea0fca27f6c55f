use Rattle.std.proofs.Common.{◌≡◌, ◌∙◌, ap, sym, subst}
use Rattle.std.proofs.lemmas.Result.{IfOk-weaker}
use Rattle.rc_route.specs.Tables.{IsTable}
use Rattle.rc_rib.specs.Merging.{merged}
use Rattle.rc_rib.proofs.LayingLaws.{under_are_edits, under_is}
use Rattle.rc_rib.proofs.MergingLaws.{with_none}
use Rattle.rc_rib.proofs.laying.laid_under.Goals as goal

pub returns-then-is_empty : goal.returns-then-is_empty
returns-then-is_empty c = with_none c.args.above c.args.table (c.is_empty.ensures.0 c.if-is_empty.true)

pub returns : goal.returns
returns c =
    let known = c.listed-known.result in
    let table = c.args.table in
    let edits = c.in_ok-edits.edits.items in
    let up : IsTable known = subst IsTable (sym c.listed-known.ensures) c.requires.above in
    IfOk-weaker _ _ (λ made. made ≡ merged c.args.above table)
    (λ made says. under_is known table edits made c.in_ok-edits.ensures c.requires.table up says ∙ ap (λ t. merged t table) c.listed-known.ensures)
    (c.edited.ensures.says (under_are_edits known table edits c.in_ok-edits.ensures c.requires.table))
