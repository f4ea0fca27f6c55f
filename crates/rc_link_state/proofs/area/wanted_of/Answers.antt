use Rattle.std.proofs.Common.{◌≡◌, ◌∙◌, ap, length, arith}
use Rattle.rc_link_state.specs.Areas.{with_end}
use Rattle.rc_link_state.proofs.KeptLaws.{one_end_more, same_length}
use Rattle.rc_link_state.proofs.area.wanted_of.Goals as goal

pub loop-end-preserved : goal.loop-end-preserved
loop-end-preserved c =
    let same : length c.want.new.wanted.items ≡ length c.loop-end.wanted.items = ap length c.want.ensures ∙ same_length c.args.area c.loop-end.wanted.items c.end-item.result in (
      grind (arith, same),
      one_end_more c.args.area c.args.ends.now c.loop-end.end-index c.end-item.result c.loop-end.wanted.items c.want.new.wanted.items c.loop-end-test.true c.loop-end.invariant.1
          (c.want.ensures ∙ ap (with_end c.args.area c.loop-end.wanted.items) c.end-item.is),
    )
