use Rattle.std.proofs.Common.{ℕ, List, map, take}
use Rattle.rc_nodes.specs.Seats.{IsSeatOf, Keeps}
use Rattle.rc_spread.specs.United.{passing, KnowsPassages, sided, flow_sided}
use Rattle.rc_trees.specs.Trees.{Tree}
use Rattle.rc_spread.proofs.united.sides_of.Given as goal

abbrev pub invariant-loop-passage : goal.invariant-loop-passage
invariant-loop-passage g l = record {
  mine : IsSeatOf l.nodes l.work;
  keeps : Keeps l.fn.work l.work;
  made : (sets : ℕ → Tree) (flows : List (ℕ × Tree)) → KnowsPassages l.fn.work sets l.passages flows → KnowsPassages l.work (sided l.high l.bit sets) l.sides.items (passing (sided l.high l.bit sets) (map (flow_sided l.high l.bit) (take l.passage-index flows)));
}
