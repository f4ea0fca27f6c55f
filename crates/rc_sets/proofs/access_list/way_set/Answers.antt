-- The tests of protocol, addresses and ports, one after another.
use Rattle.std.proofs.Common.{sym, subst, ap}
use Rattle.rc_trees.specs.Combine as trees
use Rattle.rc_trees.specs.Recipes.{tree}
use Rattle.rc_sets.proofs.LineLaws.{IsKnownAs, protocol, source, source_port, destination, destination_port, sources, senders, ways, way_is, has_protocol, has_source, has_source_port, has_destination, has_destination_port, has_sources, has_senders, has_ways, has_whole, may_and, operated}
use Rattle.rc_sets.proofs.access_list.way_set.Goals as goal

pub protocol_set-requires-clause-may : goal.protocol_set-requires-clause-may
protocol_set-requires-clause-may g c = has_protocol c.args.line.now c.args.nodes.now.may c.requires.may

pub address_set-requires-clause-may : goal.address_set-requires-clause-may
address_set-requires-clause-may g c = has_source c.args.line.now c.args.nodes.now.may c.requires.may

pub port_set-requires-clause-may : goal.port_set-requires-clause-may
port_set-requires-clause-may g c = has_source_port c.args.line.now c.args.nodes.now.may c.requires.may

pub address_set-requires-2-clause-may : goal.address_set-requires-2-clause-may
address_set-requires-2-clause-may g c = has_destination c.args.line.now c.args.nodes.now.may c.requires.may

pub port_set-requires-2-clause-may : goal.port_set-requires-2-clause-may
port_set-requires-2-clause-may g c = has_destination_port c.args.line.now c.args.nodes.now.may c.requires.may

pub and-requires-clause-may : goal.and-requires-clause-may
and-requires-clause-may g c =
    let first = c.address_set.ensures.keeps c.in_ok-protocol.protocol.index (tree (protocol c.args.line.now)) c.in_ok-protocol.ensures.set in
    may_and c.args.nodes.now c.address_set.new.work c.in_ok-protocol.protocol.index c.in_ok-source.source.index (protocol c.args.line.now) (source c.args.line.now) first c.in_ok-source.ensures.set (has_sources c.args.line.now c.args.nodes.now.may c.requires.may)

pub and-requires-2-clause-may : goal.and-requires-2-clause-may
and-requires-2-clause-may g c =
    let first = c.address_set.ensures.keeps c.in_ok-protocol.protocol.index (tree (protocol c.args.line.now)) c.in_ok-protocol.ensures.set in
    let second = c.port_set.ensures.keeps c.in_ok-sources.sources.index (tree (sources c.args.line.now)) (c.in_ok-sources.ensures.and (tree (protocol c.args.line.now)) (tree (source c.args.line.now)) first c.in_ok-source.ensures.set) in
    may_and c.args.nodes.now c.port_set.new.work c.in_ok-sources.sources.index c.in_ok-source_port.source_port.index (sources c.args.line.now) (source_port c.args.line.now) second c.in_ok-source_port.ensures.set (has_senders c.args.line.now c.args.nodes.now.may c.requires.may)

pub and-requires-3-clause-may : goal.and-requires-3-clause-may
and-requires-3-clause-may g c =
    let first = c.address_set.ensures.keeps c.in_ok-protocol.protocol.index (tree (protocol c.args.line.now)) c.in_ok-protocol.ensures.set in
    let second = c.port_set.ensures.keeps c.in_ok-sources.sources.index (tree (sources c.args.line.now)) (c.in_ok-sources.ensures.and (tree (protocol c.args.line.now)) (tree (source c.args.line.now)) first c.in_ok-source.ensures.set) in
    let third = c.address_set-2.ensures.keeps c.in_ok-senders.senders.index (tree (senders c.args.line.now)) (c.in_ok-senders.ensures.and (tree (sources c.args.line.now)) (tree (source_port c.args.line.now)) second c.in_ok-source_port.ensures.set) in
    may_and c.args.nodes.now c.address_set-2.new.work c.in_ok-senders.senders.index c.in_ok-destination.destination.index (senders c.args.line.now) (destination c.args.line.now) third c.in_ok-destination.ensures.set (has_ways c.args.line.now c.args.nodes.now.may c.requires.may)

pub and-requires-4-clause-may : goal.and-requires-4-clause-may
and-requires-4-clause-may g c =
    let first = c.address_set.ensures.keeps c.in_ok-protocol.protocol.index (tree (protocol c.args.line.now)) c.in_ok-protocol.ensures.set in
    let second = c.port_set.ensures.keeps c.in_ok-sources.sources.index (tree (sources c.args.line.now)) (c.in_ok-sources.ensures.and (tree (protocol c.args.line.now)) (tree (source c.args.line.now)) first c.in_ok-source.ensures.set) in
    let third = c.address_set-2.ensures.keeps c.in_ok-senders.senders.index (tree (senders c.args.line.now)) (c.in_ok-senders.ensures.and (tree (sources c.args.line.now)) (tree (source_port c.args.line.now)) second c.in_ok-source_port.ensures.set) in
    let fourth = c.port_set-2.ensures.keeps c.in_ok-ways.ways.index (tree (ways c.args.line.now)) (c.in_ok-ways.ensures.and (tree (senders c.args.line.now)) (tree (destination c.args.line.now)) third c.in_ok-destination.ensures.set) in
    may_and c.args.nodes.now c.port_set-2.new.work c.in_ok-ways.ways.index c.in_ok-destination_port.destination_port.index (ways c.args.line.now) (destination_port c.args.line.now) fourth c.in_ok-destination_port.ensures.set (has_whole c.args.line.now c.args.nodes.now.may c.requires.may)

pub returns-clause-set : goal.returns-clause-set
returns-clause-set g c =
    let first = c.address_set.ensures.keeps c.in_ok-protocol.protocol.index (tree (protocol c.args.line.now)) c.in_ok-protocol.ensures.set in
    let second = c.port_set.ensures.keeps c.in_ok-sources.sources.index (tree (sources c.args.line.now)) (c.in_ok-sources.ensures.and (tree (protocol c.args.line.now)) (tree (source c.args.line.now)) first c.in_ok-source.ensures.set) in
    let third = c.address_set-2.ensures.keeps c.in_ok-senders.senders.index (tree (senders c.args.line.now)) (c.in_ok-senders.ensures.and (tree (sources c.args.line.now)) (tree (source_port c.args.line.now)) second c.in_ok-source_port.ensures.set) in
    let fourth = c.port_set-2.ensures.keeps c.in_ok-ways.ways.index (tree (ways c.args.line.now)) (c.in_ok-ways.ensures.and (tree (senders c.args.line.now)) (tree (destination c.args.line.now)) third c.in_ok-destination.ensures.set) in
    subst (IsKnownAs c.and-4.new.self c.and-4.result) (ap tree (sym (way_is c.args.line.now)))
    (operated c.port_set-2.new.work c.and-4.new.self trees.and c.in_ok-ways.ways.index c.in_ok-destination_port.destination_port.index (tree (ways c.args.line.now)) (tree (destination_port c.args.line.now)) fourth c.in_ok-destination_port.ensures.set c.and-4.result c.and-4.ensures.and)
