use Rattle.std.proofs.Common.{◌∙◌, ap, sym}
use Rattle.rc_as_path.specs.Numbers.{numbers}
use Rattle.rc_as_path.proofs.SegmentLaws.{held_behind}
use Rattle.rc_as_path.proofs.segment.holds.Goals as goal

pub loop-left-preserved : goal.loop-left-preserved
loop-left-preserved c =
    let whole = ap numbers c.in-Some.is ∙ sym c.deref.ensures ∙ c.parts-parts.ensures.whole in
    held_behind c.args.asn c.parts-parts.result.own.now (numbers c.parts-parts.result.rest.now) (numbers c.loop-left.left.now) whole _ c.loop-left.invariant
    (sym c.is_among.ensures ∙ c.if-is_among.false)
