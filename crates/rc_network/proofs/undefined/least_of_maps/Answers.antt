use Rattle.rc_network.specs.Undefined.{least_line, named_by_map, named_by_maps}
use Rattle.rc_network.proofs.LeastLaws.{left-named}
use Rattle.rc_network.proofs.undefined.least_of_maps.Goals as goal

pub loop-index-preserved : goal.loop-index-preserved
loop-index-preserved c =
    left-named c.args.file.now named_by_map c.loop-index.least c.least_at.result c.lower-least.result (least_line c.args.file.now (named_by_maps c.args.file.now.route_maps)) c.args.file.now.route_maps c.loop-index.index
    c.least_at.ensures c.lower-least.ensures c.loop-index.invariant
