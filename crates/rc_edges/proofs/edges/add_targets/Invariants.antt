use Rattle.std.proofs.Common.{length, take}
use Rattle.rc_config.specs.Members.{positions}
use Rattle.rc_edges.specs.Given.{IsRow, given_onto, joined}
use Rattle.rc_router_sets.specs.Made.{IsMade}
use Rattle.rc_router_sets.specs.Sent.{hops_at}
use Rattle.rc_nodes.specs.Seats.{Keeps}
use Rattle.rc_edges.proofs.edges.add_targets.Given as goal

-- so far the hop has given to the first of its targets
abbrev pub invariant-loop-next : goal.invariant-loop-next
invariant-loop-next g l = record {
  made : IsMade l.nodes l.work l.site.plane.now l.site.position l.made;
  keeps : Keeps l.fn.work l.work;
  row : IsRow l.work l.row (length (positions l.places)) (joined (given_onto l.site.plane.now l.site.position (take l.at.index (hops_at l.site.plane.now l.site.position)) l.at.hop (take l.next-index l.targets)));
}
