-- What is made of each of some items in a row.
use Rattle.std.specs.Prelude.{◌≡◌, ℕ, ◌+◌, List, [], ◌∷◌}

-- what is made of the items from one number up to another, in order
unfoldable pub IsStretch : {X : Type 0} → (ℕ → X → Type 0) → ℕ → ℕ → List X → Type 0
IsStretch makes from to [] = from ≡ to
IsStretch makes from to (x ∷ xs) = makes from x × IsStretch makes (from + 1) to xs
