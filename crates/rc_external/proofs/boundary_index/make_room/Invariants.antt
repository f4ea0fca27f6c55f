use Rattle.std.proofs.Common.{◌≡◌, ℕ, ◌+◌, ◌-◌, length}
use Rattle.rc_external.specs.BoundaryIndex.{place_at}
use Rattle.rc_external.proofs.boundary_index.make_room.Given as goal

abbrev pub invariant-loop-router : goal.invariant-loop-router
invariant-loop-router l = (s : ℕ) → place_at l.places.items s ≡ place_at l.initial.places.items s

abbrev pub decreases-loop-router : goal.decreases-loop-router
decreases-loop-router l = l.router + 1 - length l.places.items
