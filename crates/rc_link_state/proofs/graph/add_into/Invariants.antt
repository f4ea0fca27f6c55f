use Rattle.std.proofs.Common.{◌≡◌, ◌++◌, drop, map}
use Rattle.rc_link_state.specs.Graph.{edge_into}
use Rattle.rc_link_state.proofs.graph.add_into.Given as goal

abbrev pub invariant-loop-interface : goal.invariant-loop-interface
invariant-loop-interface l = l.edges.items ++ map (edge_into l.node) (drop l.interface-index l.attached) ≡ l.initial.edges.items ++ map (edge_into l.node) l.attached
