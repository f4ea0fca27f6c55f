-- What is offered inside an area.
use Rattle.std.specs.Prelude.{ℕ, ◌<◌, ◌^◌}

-- a router offers a destination inside an area, at a cost
pub record Offered : Type 0 where
  pub router : ℕ
  pub area : ℕ
  pub cost : ℕ

abbrev pub IsSmall : Offered → Type 0
IsSmall o = o.cost < 2 ^ 26
