use Rattle.std.specs.List.{flat_map}
use Rattle.rc_network.specs.Undefined.{least_line, named_by_entry}
use Rattle.rc_network.proofs.LeastLaws.{left-part}
use Rattle.rc_network.proofs.undefined.least_of_map.Goals as goal

pub loop-entry-preserved : goal.loop-entry-preserved
loop-entry-preserved c =
    left-part c.args.file.now named_by_entry c.loop-entry.least c.least_of_entry.result c.lower-least.result (least_line c.args.file.now (flat_map named_by_entry c.args.map.now.entries))
    c.loop-entry.entry-iterator c.next.new.self c.in-Some.entry.now c.in-Some.ensures.steps c.least_of_entry.ensures c.lower-least.ensures c.loop-entry.invariant
