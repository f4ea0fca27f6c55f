-- What hands make of the items that they take.
use Rattle.std.specs.Prelude.{ℕ, List, [], ◌∷◌}

-- each element that a hand has made is made of the item of its number
unfoldable pub IsHand : {X : Type 0} → (ℕ → X → Type 0) → List (ℕ × X) → Type 0
IsHand makes [] = Unit {0}
IsHand makes (e ∷ es) = makes e.0 e.1 × IsHand makes es
