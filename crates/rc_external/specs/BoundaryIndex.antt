-- Paths to AS boundary routers by router, as the code finds them.
use Rattle.std.specs.Prelude.{◌≡◌, ℕ, List, Option, option_and_then, slice_get}
use Rattle.rc_ospf.specs.BoundaryPaths.{BoundaryPath}
use Rattle.rc_external.specs.Ways.{path_to}

-- the place of the path to a router, none past the end
abbrev pub place_at : List (Option ℕ) → ℕ → Option ℕ
place_at places s = option_and_then (λ (place : Option ℕ). place) (slice_get places s)

-- the path at the place of a router
abbrev pub path_by_place : List BoundaryPath → List (Option ℕ) → ℕ → Option BoundaryPath
path_by_place paths places s = option_and_then (slice_get paths) (place_at places s)

-- the place of each router is that of the path to it, among some of the paths
pub record ArePlaces (paths among : List BoundaryPath) (places : List (Option ℕ)) : Type 0 where
  pub each : (s : ℕ) → path_by_place paths places s ≡ path_to among s
