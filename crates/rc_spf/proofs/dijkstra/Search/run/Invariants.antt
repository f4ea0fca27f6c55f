use Rattle.rc_spf.specs.Waiting.{IsQueue}
use Rattle.rc_spf.proofs.Search.{IsSearch, open_count}
use Rattle.rc_spf.proofs.dijkstra.Search.run.Given as goal

abbrev pub invariant-loop-node : goal.invariant-loop-node
invariant-loop-node l = IsSearch l.graph.edges.items l.root l.graph.nodes l.self.costs.items l.self.settled.items × IsQueue l.self.queue l.self.costs.items l.self.settled.items

abbrev pub decreases-loop-node : goal.decreases-loop-node
decreases-loop-node l = open_count l.self.settled.items
