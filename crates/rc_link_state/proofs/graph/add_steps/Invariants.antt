use Rattle.std.proofs.Common.{◌≡◌, ◌++◌, drop, map}
use Rattle.rc_link_state.specs.Graph.{plain_edge}
use Rattle.rc_link_state.proofs.graph.add_steps.Given as goal

abbrev pub invariant-loop-step : goal.invariant-loop-step
invariant-loop-step l = l.edges.items ++ map plain_edge (drop l.step-index l.steps) ≡ l.initial.edges.items ++ map plain_edge l.steps
