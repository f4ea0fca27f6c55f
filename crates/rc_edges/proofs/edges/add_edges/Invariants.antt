use Rattle.std.proofs.Common.{length, take}
use Rattle.rc_config.specs.Members.{positions}
use Rattle.rc_edges.specs.Given.{IsRow, given_by, joined}
use Rattle.rc_router_sets.specs.Made.{IsMade}
use Rattle.rc_router_sets.specs.Sent.{hops_at}
use Rattle.rc_nodes.specs.Seats.{Keeps}
use Rattle.rc_edges.proofs.edges.add_edges.Given as goal

-- so far the first hops have given
abbrev pub invariant-loop-index : goal.invariant-loop-index
invariant-loop-index g l = record {
  made : IsMade l.nodes l.work l.site.plane.now l.site.position l.made;
  keeps : Keeps l.fn.work l.work;
  row : IsRow l.work l.row (length (positions l.places)) (joined (given_by l.site.plane.now l.site.position (take l.index (hops_at l.site.plane.now l.site.position))));
}
