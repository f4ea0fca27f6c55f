use Rattle.rc_rib.proofs.MergingLaws.{with_none}
use Rattle.rc_rib.proofs.merging.merged.Goals as goal

pub returns-then-is_empty-2 : goal.returns-then-is_empty-2
returns-then-is_empty-2 c = with_none c.args.first c.args.second (c.is_empty-2.ensures.0 c.if-is_empty-2.true)
