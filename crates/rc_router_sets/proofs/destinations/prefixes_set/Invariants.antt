use Rattle.std.proofs.Common.{take}
use Rattle.rc_nodes.specs.Seats.{IsSeatOf, SeatKnows, Keeps}
use Rattle.rc_trees.specs.Fields.{chain}
use Rattle.rc_trees.specs.Recipes.{tree, union_of}
use Rattle.rc_router_sets.proofs.destinations.prefixes_set.Given as goal

-- so far the chains of the first prefixes are joined
abbrev pub invariant-loop-prefix : goal.invariant-loop-prefix
invariant-loop-prefix g l = record {
  seat : IsSeatOf l.nodes l.work;
  keeps : Keeps l.fn.work l.work;
  so_far : SeatKnows l.work l.set.index (tree (union_of chain (take l.prefix-index l.prefixes)));
}
