-- Workers at the gate.
use Rattle.std.specs.Prelude.{ℕ}

-- the workers from one number up to another have each passed the gate in a phase
pub record Passage : Type 0 where
  pub phase : ℕ
  pub first : ℕ
  pub last : ℕ

-- the workers from the first up to the last have passed in the phase
abbrev pub passage : ℕ → ℕ → ℕ → Passage
passage phase first last = record { phase = phase; first = first; last = last }
