use Rattle.std.proofs.Common.{◌≤◌, drop, length}
use Rattle.rc_external.specs.BoundaryIndex.{ArePlaces}
use Rattle.rc_external.proofs.boundary_index.places_of.Given as goal

abbrev pub invariant-loop-left : goal.invariant-loop-left
invariant-loop-left l = record {
  within : l.left ≤ length l.paths;
  noted : ArePlaces l.paths (drop l.left l.paths) l.places.items;
}

abbrev pub decreases-loop-left : goal.decreases-loop-left
decreases-loop-left l = l.left
