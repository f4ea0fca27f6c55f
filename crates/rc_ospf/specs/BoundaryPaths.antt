-- Paths to AS boundary routers as they are kept.
use Rattle.std.specs.Prelude.{ℕ, ◌^◌, ◌<◌, List}
use Rattle.rc_route.specs.declared.route.Hop.{Hop}

-- the distance of an AS boundary router, and the hops towards it, in order
pub record BoundaryPath : Type 0 where
  pub router : ℕ
  pub cost : ℕ
  pub hops : List Hop

abbrev pub IsNear : BoundaryPath → Type 0
IsNear b = b.cost < 2 ^ 27
