use Rattle.rc_network.specs.Undefined.{least_line, named_by_group, named_by_groups}
use Rattle.rc_network.proofs.LeastLaws.{left-named}
use Rattle.rc_network.proofs.undefined.least_of_groups.Goals as goal

pub loop-index-preserved : goal.loop-index-preserved
loop-index-preserved c =
    left-named c.args.file.now named_by_group c.loop-index.least c.least_of_group_at.result c.lower-least.result (least_line c.args.file.now (named_by_groups c.args.groups.now)) c.args.groups.now c.loop-index.index
    c.least_of_group_at.ensures c.lower-least.ensures c.loop-index.invariant
