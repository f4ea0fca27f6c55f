use Rattle.std.proofs.Common.{[]}
use Rattle.std.specs.Option.{option_map_or}
use Rattle.rc_network.specs.Undefined.{named_by_bgp, named_by_process}
use Rattle.rc_network.proofs.LeastLaws.{both_parts}
use Rattle.rc_network.proofs.undefined.least_of_processes.Goals as goal

pub returns : goal.returns
returns c =
    let r = c.args.file.now in
    both_parts r (option_map_or named_by_process r.ospf []) (option_map_or named_by_bgp r.bgp []) c.least_of_process.result c.least_of_bgp.result c.lower.result
    c.least_of_process.ensures c.least_of_bgp.ensures c.lower.ensures
