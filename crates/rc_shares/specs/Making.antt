-- What is made of each of some things.
use Rattle.std.specs.Prelude.{◌≡◌, List, [], ◌∷◌}

-- one is made of each, in order
abbrev pub AreMade : {X Y : Type 0} → (X → Y → Type 0) → List X → List Y → Type 0
AreMade made [] [] = Unit {0}
AreMade made [] (y ∷ ys) = ⊥
AreMade made (x ∷ xs) [] = ⊥
AreMade made (x ∷ xs) (y ∷ ys) = made x y × AreMade made xs ys

-- it is what the function gives of the thing, and of such a kind
pub record IsGiven {X Y : Type 0} (give : X → Y) (kind : Y → Type 0) (x : X) (y : Y) : Type 0 where
  pub value : y ≡ give x
  pub is_of_kind : kind y
