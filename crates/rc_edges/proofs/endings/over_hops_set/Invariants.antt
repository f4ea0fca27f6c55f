use Rattle.std.proofs.Common.{take}
use Rattle.std.specs.List.{flat_map}
use Rattle.rc_router_sets.specs.Edges.{union}
use Rattle.rc_router_sets.specs.Ends.{ends_over}
use Rattle.rc_trees.specs.Recipes.{tree}
use Rattle.rc_router_sets.specs.Made.{IsMade}
use Rattle.rc_router_sets.specs.Sent.{hops_at}
use Rattle.rc_nodes.specs.Seats.{Keeps, SeatKnows}
use Rattle.rc_edges.proofs.endings.over_hops_set.Given as goal

abbrev pub invariant-loop-index : goal.invariant-loop-index
invariant-loop-index g l = record {
  made : IsMade l.nodes l.work l.site.plane.now l.site.position l.made;
  keeps : Keeps l.fn.work l.work;
  known : SeatKnows l.work l.set.index (tree (union (flat_map (ends_over l.site.plane.now l.site.position l.kind) (take l.index (hops_at l.site.plane.now l.site.position)))));
}
