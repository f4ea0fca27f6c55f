use Rattle.std.proofs.Common.{◌≡◌, ◌∙◌}
use Rattle.std.proofs.lemmas.Result.{IfOk-weaker}
use Rattle.rc_rib.specs.Merging.{merged}
use Rattle.rc_rib.proofs.LayingLaws.{over_are_edits, over_is}
use Rattle.rc_rib.proofs.MergingLaws.{with_none}
use Rattle.rc_rib.proofs.laying.laid_over.Goals as goal

pub returns-then-is_empty : goal.returns-then-is_empty
returns-then-is_empty c =
    IfOk-weaker _ _ (λ made. made ≡ merged c.args.table c.args.below.now) (λ made is. is ∙ with_none c.args.table c.args.below.now (c.is_empty.ensures.0 c.if-is_empty.true)) c.of.ensures

pub returns : goal.returns
returns c =
    let below = c.args.below.now in
    let edits = c.in_ok-edits.edits.items in
    IfOk-weaker _ _ (λ made. made ≡ merged c.args.table below) (λ made says. over_is below c.args.table edits made c.in_ok-edits.ensures c.requires.table c.requires.below says)
    (c.edited.ensures.says (over_are_edits below c.args.table edits c.in_ok-edits.ensures c.requires.table))
