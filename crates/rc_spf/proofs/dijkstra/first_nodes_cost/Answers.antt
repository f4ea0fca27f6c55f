use Rattle.rc_spf.proofs.Entering.{first_nodes}
use Rattle.rc_spf.proofs.dijkstra.first_nodes_cost.Goals as goal

pub returns : goal.returns
returns c = first_nodes
