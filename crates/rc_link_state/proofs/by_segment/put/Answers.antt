use Rattle.std.proofs.Common.{◌∙◌, ap}
use Rattle.rc_link_state.specs.Grouping.{with_interface}
use Rattle.rc_link_state.proofs.SegmentLaws.{put_is}
use Rattle.rc_link_state.proofs.by_segment.put.Goals as goal

pub returns-clause-put : goal.returns-clause-put
returns-clause-put c =
    put_is c.args.rows.now c.insert.new.self c.insert-2.new.self _ _ _ _ _ c.segment_of.ensures c.segment_of-2.ensures c.in_ok-known.ensures.updates c.in_ok-insert.ensures.updates
    (c.in_ok-made.ensures ∙ ap (λ known. with_interface known c.args.interface.now) c.in_ok-known.ensures.old)
