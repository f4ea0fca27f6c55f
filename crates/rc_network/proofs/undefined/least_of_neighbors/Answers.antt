use Rattle.rc_network.specs.Undefined.{least_line, named_by_neighbor, named_by_neighbors}
use Rattle.rc_network.proofs.LeastLaws.{left-part}
use Rattle.rc_network.proofs.undefined.least_of_neighbors.Goals as goal

pub loop-neighbor-preserved : goal.loop-neighbor-preserved
loop-neighbor-preserved c =
    left-part c.args.file.now named_by_neighbor c.loop-neighbor.least c.least_of_settings.result c.lower-least.result (least_line c.args.file.now (named_by_neighbors c.args.neighbors.now))
    c.loop-neighbor.neighbor-iterator c.next.new.self c.in-Some.neighbor.now c.in-Some.ensures.steps c.least_of_settings.ensures c.lower-least.ensures c.loop-neighbor.invariant
