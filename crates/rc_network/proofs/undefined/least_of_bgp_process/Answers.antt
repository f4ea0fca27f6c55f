use Rattle.std.proofs.Common.{◌++◌}
use Rattle.rc_network.specs.Undefined.{named_by_groups, named_by_neighbors, named_by_sources}
use Rattle.rc_network.proofs.LeastLaws.{both_parts}
use Rattle.rc_network.proofs.undefined.least_of_bgp_process.Goals as goal

pub returns : goal.returns
returns c =
    let r = c.args.file.now in
    let p = c.args.process.now in
    let neighbors = named_by_neighbors p.neighbors in
    let groups = named_by_groups p.peering.groups in
    both_parts r (neighbors ++ groups) (named_by_sources p.redistributions) c.lower.result c.least_of_sources-of_sources.result c.lower-2.result
    (both_parts r neighbors groups c.least_of_neighbors-of_neighbors.result c.least_of_groups-of_groups.result c.lower.result c.least_of_neighbors-of_neighbors.ensures c.least_of_groups-of_groups.ensures c.lower.ensures)
    c.least_of_sources-of_sources.ensures c.lower-2.ensures
