-- Lists by router.
use Rattle.std.specs.Prelude.{◌≡◌, ℕ, ◌<◌, ◌==◌, List, [], ◌∷◌, ◌++◌, filter, length, slice_set}
use Rattle.std.specs.List.{slice_index_or}

module _ {X : Type 0} where
  -- what stands under a router; nothing behind the last one
  abbrev pub of_router : List (List X) → ℕ → List X
  of_router lists r = slice_index_or lists r []

  -- one more at the end of what stands under it
  abbrev pub with_item : List (List X) → ℕ → X → List (List X)
  with_item lists r x = slice_set lists r (of_router lists r ++ x ∷ [])

  -- each of n routers has those whose key he is, in order
  pub record AreByRouter (key : X → ℕ) (n : ℕ) (xs : List X) (lists : List (List X)) : Type 0 where
    pub len : length lists ≡ n
    pub own : (r : ℕ) → r < n → of_router lists r ≡ filter (λ x. key x == r) xs
