use Rattle.std.proofs.Common.{take}
use Rattle.rc_nodes.specs.Seats.{IsSeatOf, SeatKnows, Keeps}
use Rattle.rc_router_sets.specs.Sent.{to_interface}
use Rattle.rc_trees.specs.Recipes.{tree, union_of}
use Rattle.rc_router_sets.proofs.destinations.interfaces_set.Given as goal

-- so far the sets of the first interfaces are joined
abbrev pub invariant-loop-interface : goal.invariant-loop-interface
invariant-loop-interface g l = record {
  seat : IsSeatOf l.nodes l.work;
  keeps : Keeps l.fn.work l.work;
  so_far : SeatKnows l.work l.set.index (tree (union_of (to_interface l.plane) (take l.interface-index l.interfaces)));
}
