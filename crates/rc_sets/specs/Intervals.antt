-- Intervals of a number in a header, as trees.
use Rattle.std.specs.Prelude.{◌≡◌, ◌⊎◌, ℕ, zero, suc, ◌-◌, ◌^◌, ◌&&◌, nat_le, nat_lt}
use Rattle.rc_base.specs.Header.{last_bit}
use Rattle.rc_base.specs.declared.field.Field.TheVariants.{Sport, Dport}
use Rattle.rc_trees.specs.Trees.{Tree}
use Rattle.rc_trees.specs.Combine.{constant, joined}

-- the number of so many bits is at least low and lower than the end: where its first bit is 1, the others are compared with what is left
-- of both ends
unfoldable pub between : ℕ → ℕ → ℕ → ℕ → Tree
between last zero low end = constant (nat_le low 0 && nat_lt 0 end)
between last (suc k) low end = joined (last - k) (between last k low end) (between last k (low - 2 ^ k) (end - 2 ^ k))

-- a port of a header ends at this bit: the source port, or the destination port
abbrev pub IsPort : ℕ → Type 0
IsPort last = (last ≡ last_bit Sport) ⊎ (last ≡ last_bit Dport)
