use Rattle.std.proofs.Common.{◌≡◌, ◌+◌, ◌≤◌, ◌++◌, drop}
use Rattle.rc_link_state.specs.Graph.{network_edges}
use Rattle.rc_link_state.proofs.graph.add_networks.Given as goal

abbrev pub invariant-loop-network : goal.invariant-loop-network
invariant-loop-network l = (l.edges.items ++ network_edges l.at (drop l.network-index l.networks) ≡ l.initial.edges.items ++ network_edges l.node l.networks) × (l.at ≤ l.node + l.network-index)
