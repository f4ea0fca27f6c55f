use Rattle.std.proofs.Common.{ℕ, List, take}
use Rattle.rc_nodes.specs.Seats.{IsSeatOf, Keeps}
use Rattle.rc_sectors.specs.Sectors.{within, flows_within}
use Rattle.rc_spread.specs.United.{passing, AreThere, KnowsPassages}
use Rattle.rc_trees.specs.Trees.{Tree}
use Rattle.rc_spread.proofs.united.passages_of.Given as goal

abbrev pub invariant-loop-flow : goal.invariant-loop-flow
invariant-loop-flow g l = record {
  mine : IsSeatOf l.nodes l.work;
  keeps : Keeps l.fn.work l.work;
  made : (of : ℕ → Tree) (whole : List (ℕ × Tree)) → AreThere l.fn.work l.sets l.flows l.sector of whole → KnowsPassages l.work (λ q. within l.sector (of q)) l.passages.items (passing (λ q. within l.sector (of q)) (flows_within l.sector (take l.flow-index whole)));
}
