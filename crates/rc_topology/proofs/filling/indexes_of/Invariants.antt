use Rattle.std.proofs.Common.{◌≡◌, [], drop}
use Rattle.rc_topology.specs.Filling.{hosts, with_routers}
use Rattle.rc_topology.specs.Ports.{link_prefixes}
use Rattle.rc_topology.proofs.filling.indexes_of.Given as goal

abbrev pub invariant-loop-index : goal.invariant-loop-index
invariant-loop-index l = record {
  by_prefix : with_routers link_prefixes l.index l.indexes.by_prefix (drop l.index l.links) ≡ with_routers link_prefixes 0 [] l.links;
  by_addr : with_routers hosts l.index l.indexes.by_addr (drop l.index l.links) ≡ with_routers hosts 0 [] l.links;
}
