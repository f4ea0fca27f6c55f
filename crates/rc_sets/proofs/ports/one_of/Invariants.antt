use Rattle.std.proofs.Common.{take}
use Rattle.rc_nodes.specs.Seats.{IsSeatOf, SeatKnows, Keeps}
use Rattle.rc_trees.specs.Fields.{exact}
use Rattle.rc_trees.specs.Recipes.{given, tree, union_of}
use Rattle.rc_sets.proofs.ports.one_of.Given as goal

-- so far the first ports are joined
abbrev pub invariant-loop-port : goal.invariant-loop-port
invariant-loop-port g l = record {
  seat : IsSeatOf l.nodes l.work;
  keeps : Keeps l.fn.work l.work;
  so_far : SeatKnows l.work l.set.index (tree (union_of (λ n. given (exact l.last 16 n)) (take l.port-index l.ports)));
}
