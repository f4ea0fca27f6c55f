-- Things that stand by a number of their own, each number once.
use Rattle.std.specs.Prelude.{◌≡◌, ℕ, ◌<◌, ◌-◌, ◌==◌, Bool, not, nat_lt, if◌then◌else◌, List, [], ◌∷◌, length, Option, slice_get}
use Rattle.std.specs.List.{filter, find, list_any, AllByRecursion, AllPairs}
use Rattle.std.specs.List.Sorted.{IsStrictlySortedBy}
use Rattle.std.specs.Map.{keys_of}
use Rattle.std.specs.Option.{option_map}
use Rattle.std.specs.Ordering.{nat_cmp}

module _ {A : Type 0} (number : A → ℕ) where
  -- things by strictly rising number
  abbrev pub IsByNumber : List A → Type 0
  IsByNumber xs = AllPairs (λ x y. number x < number y) xs

  -- xs with x: in front of the first with a greater number, in place of one with the same, and else behind all
  abbrev pub placed : A → List A → List A
  placed x [] = x ∷ []
  placed x (y ∷ ys) = if nat_lt (number x) (number y) then x ∷ y ∷ ys else if number x == number y then x ∷ ys else y ∷ placed x ys

  -- the thing of this number
  abbrev pub with_number : ℕ → List A → Option A
  with_number n xs = find (λ x. number x == n) xs

  -- all things but the one of this number
  abbrev pub without_number : ℕ → List A → List A
  without_number n xs = filter (λ x. not (number x == n)) xs

  -- one of the things has this number
  abbrev pub has_number : ℕ → List A → Bool
  has_number n xs = list_any (λ x. number x == n) xs

  -- the number of the last thing
  abbrev pub last_number : List A → Option ℕ
  last_number xs = option_map number (slice_get xs (length xs - 1))

  -- the rows of a map: each thing stands under its number, and numbers rise
  pub record AreRows (rows : List (ℕ × A)) : Type 0 where
    pub numbered : AllByRecursion (λ row. row.0 ≡ number row.1) rows
    pub rising : IsStrictlySortedBy nat_cmp (keys_of rows)
