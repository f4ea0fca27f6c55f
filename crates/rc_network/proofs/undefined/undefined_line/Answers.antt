use Rattle.rc_network.specs.Undefined.{named_by_maps, named_by_processes}
use Rattle.rc_network.proofs.LeastLaws.{both_parts}
use Rattle.rc_network.proofs.undefined.undefined_line.Goals as goal

pub returns : goal.returns
returns c =
    let r = c.args.file.now in
    both_parts r (named_by_maps r.route_maps) (named_by_processes r) c.least_of_maps.result c.least_of_processes.result c.lower.result
    c.least_of_maps.ensures c.least_of_processes.ensures c.lower.ensures
