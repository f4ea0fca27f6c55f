use Rattle.std.specs.List.{flat_map}
use Rattle.rc_network.specs.Undefined.{least_line, named_by_redistribution}
use Rattle.rc_network.proofs.LeastLaws.{left-slice}
use Rattle.rc_network.proofs.undefined.least_of_redistributions.Goals as goal

pub loop-line-preserved : goal.loop-line-preserved
loop-line-preserved c =
    left-slice c.args.file.now named_by_redistribution c.loop-line.least c.least_of_redistribution.result c.lower-least.result (least_line c.args.file.now (flat_map named_by_redistribution c.args.lines.now))
    c.args.lines.now c.loop-line.line-index c.line-item.result c.loop-line-test.true c.line-item.is c.least_of_redistribution.ensures c.lower-least.ensures c.loop-line.invariant
