use Rattle.std.proofs.Common.{◌≡◌, ◌++◌, drop, map}
use Rattle.rc_link_state.specs.Graph.{turned}
use Rattle.rc_link_state.proofs.graph.turned.Given as goal

abbrev pub invariant-loop-edge : goal.invariant-loop-edge
invariant-loop-edge l = l.turned.items ++ map turned (drop l.edge-index l.edges) ≡ map turned l.edges
