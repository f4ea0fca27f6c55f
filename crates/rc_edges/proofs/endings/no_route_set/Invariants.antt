use Rattle.std.proofs.Common.{take}
use Rattle.rc_sets.specs.Regions.{hop_set}
use Rattle.rc_trees.specs.Recipes.{tree, without}
use Rattle.rc_router_sets.specs.Made.{IsMade}
use Rattle.rc_router_sets.specs.Sent.{forwarded, hops_at}
use Rattle.rc_nodes.specs.Seats.{Keeps, SeatKnows}
use Rattle.rc_moves.specs.Moves.{fib_of, router_of}
use Rattle.rc_edges.proofs.endings.no_route_set.Given as goal

abbrev pub invariant-loop-index : goal.invariant-loop-index
invariant-loop-index g l = record {
  made : IsMade l.nodes l.work l.site.plane.now l.site.position l.made;
  keeps : Keeps l.fn.work l.work;
  known : SeatKnows l.work l.set.index (tree (without (hop_set (fib_of l.site.plane.now (router_of l.site.position))) (forwarded l.site.plane.now l.site.position) (take l.index (hops_at l.site.plane.now l.site.position))));
}
