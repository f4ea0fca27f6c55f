use Rattle.std.proofs.Common.{◌≡◌, drop}
use Rattle.rc_topology.specs.Filling.{hosts, with_ports}
use Rattle.rc_topology.specs.Ports.{link_prefixes}
use Rattle.rc_topology.proofs.filling.add_router.Given as goal

abbrev pub invariant-loop-index : goal.invariant-loop-index
invariant-loop-index l = record {
  by_prefix : with_ports link_prefixes l.router l.index l.indexes.by_prefix (drop l.index l.ports) ≡ with_ports link_prefixes l.router 0 l.fn.indexes.by_prefix l.ports;
  by_addr : with_ports hosts l.router l.index l.indexes.by_addr (drop l.index l.ports) ≡ with_ports hosts l.router 0 l.fn.indexes.by_addr l.ports;
}
