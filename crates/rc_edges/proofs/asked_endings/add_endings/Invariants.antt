use Rattle.std.proofs.Common.{◌++◌, Bool, List, filter, take}
use Rattle.rc_base.specs.Positions.{is_among}
use Rattle.rc_base.specs.declared.ending.Kind.{Kind}
use Rattle.rc_router_sets.specs.Made.{IsMade}
use Rattle.rc_base.specs.Endings.{all_kinds}
use Rattle.rc_edges.specs.Prepare.{end_trees}
use Rattle.rc_edges.specs.Stops.{AreKnown, sets_of}
use Rattle.rc_nodes.specs.Seats.{Keeps}
use Rattle.rc_trees.specs.Trees.{Tree}
use Rattle.rc_edges.proofs.asked_endings.add_endings.Given as goal

-- so far the first of the endings are among the sets
abbrev pub invariant-loop-index : goal.invariant-loop-index
invariant-loop-index g l = record {
  made : IsMade l.nodes l.work l.site.plane.now l.site.position l.made;
  keeps : Keeps l.fn.work l.work;
  stops : (these : Kind → Bool) (done : List Tree) → AreKnown l.fn.work (sets_of these l.fn.stops.items) done → AreKnown l.work (sets_of these l.stops.items) (done ++ end_trees l.site.plane.now l.site.position (filter these (filter (is_among l.ends) (take l.index all_kinds))));
}
