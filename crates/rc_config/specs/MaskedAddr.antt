-- Addresses of interfaces.
use Rattle.std.specs.Prelude.{ℕ, ◌≤◌}

-- an address, whole, and the length of its mask
pub record MaskedAddr : Type 0 where
  pub addr : ℕ
  pub len : ℕ

-- a mask has from 1 to 32 ones
abbrev pub IsMaskLen : ℕ → Type 0
IsMaskLen len = (1 ≤ len) × (len ≤ 32)
