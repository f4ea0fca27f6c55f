use Rattle.std.proofs.Common.{◌∙◌, ap, sym}
use Rattle.rc_as_path.specs.Numbers.{numbers}
use Rattle.rc_as_path.proofs.SegmentLaws.{as_long_behind, others_here, same_here}
use Rattle.rc_as_path.proofs.segment.is_same_behind.Goals as goal

pub loop-left-preserved : goal.loop-left-preserved
loop-left-preserved c =
    let here = c.parts-here.result in
    let there = c.parts-there.result in
    let one = c.parts-here.ensures in
    let other = c.parts-there.ensures in
    let whole = ap numbers c.in-Some.is ∙ sym c.deref.ensures ∙ one.whole in
    let all_of = ap numbers c.in-Some-right.is ∙ sym c.deref-in-Some-right.ensures ∙ other.whole in (
      as_long_behind here.own.now there.own.now (numbers here.rest.now) (numbers there.rest.now) _ _ here.behind there.behind whole all_of c.loop-left.invariant.0 one.some one.few other.some other.few one.full other.full,
      same_here here.own.now there.own.now (numbers here.rest.now) (numbers there.rest.now) _ _ here.behind there.behind whole all_of c.loop-left.invariant.0 one.some one.few other.some other.few one.full other.full _ c.loop-left.invariant.1 (sym c.are_same.ensures ∙ c.if-not-are_same.false),
    )

pub returns-then-not-are_same : goal.returns-then-not-are_same
returns-then-not-are_same c =
    let here = c.parts-here.result in
    let there = c.parts-there.result in
    let one = c.parts-here.ensures in
    let other = c.parts-there.ensures in
    let whole = ap numbers c.in-Some.is ∙ sym c.deref.ensures ∙ one.whole in
    let all_of = ap numbers c.in-Some-right.is ∙ sym c.deref-in-Some-right.ensures ∙ other.whole in
    others_here here.own.now there.own.now (numbers here.rest.now) (numbers there.rest.now) _ _ here.behind there.behind whole all_of c.loop-left.invariant.0 one.some one.few other.some other.few one.full other.full _ c.loop-left.invariant.1 (sym c.are_same.ensures ∙ c.if-not-are_same.true)
