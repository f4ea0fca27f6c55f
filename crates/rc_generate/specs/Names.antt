-- The number in the name of a file.
use Rattle.std.specs.Prelude.{ℕ, ◌+◌, ◌-◌, ◌*◌, List, ◌∷◌}

-- that of the three digits behind the first byte
abbrev pub number_in : List ℕ → ℕ
number_in (b ∷ hundreds ∷ tens ∷ ones ∷ bs) = (hundreds - 48) * 100 + (tens - 48) * 10 + (ones - 48)
number_in _ = 0
