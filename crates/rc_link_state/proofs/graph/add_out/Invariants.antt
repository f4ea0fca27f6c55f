use Rattle.std.proofs.Common.{◌≡◌, ◌++◌, drop, map}
use Rattle.rc_link_state.specs.Graph.{edge_out}
use Rattle.rc_link_state.proofs.graph.add_out.Given as goal

abbrev pub invariant-loop-interface : goal.invariant-loop-interface
invariant-loop-interface l = l.edges.items ++ map (edge_out l.node) (drop l.interface-index l.attached) ≡ l.initial.edges.items ++ map (edge_out l.node) l.attached
