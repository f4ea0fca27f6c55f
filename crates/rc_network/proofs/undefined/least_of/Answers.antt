use Rattle.rc_network.specs.Undefined.{least_line, of_kind}
use Rattle.rc_network.proofs.LeastLaws.{left-mention}
use Rattle.rc_network.proofs.undefined.least_of.Goals as goal

pub loop-mention-preserved : goal.loop-mention-preserved
loop-mention-preserved c =
    left-mention c.args.file.now c.args.kind c.loop-mention.least c.line_of.result c.lower-least.result (least_line c.args.file.now (of_kind c.args.kind c.args.mentions.now))
    c.args.mentions.now c.loop-mention.mention-index c.mention-item.result c.loop-mention-test.true c.mention-item.is c.line_of.ensures c.lower-least.ensures c.loop-mention.invariant
