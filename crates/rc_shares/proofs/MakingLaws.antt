-- What is made of each of some things, list by list.
use Rattle.std.proofs.Common.{refl, ◌≡◌, ap, ◌∙◌, subst, ℕ, suc, ◌+◌, ◌<◌, List, [], ◌∷◌, length, map, All, arith}
use Rattle.std.specs.Prelude.{Result, Ok, Err, IfOk, slice_index_or}
use Rattle.std.specs.declared.alloc.AllocError.{AllocError}
use Rattle.std.proofs.lemmas.List.Elements.{All-cons}
use Rattle.rc_shares.specs.Stretches.{IsStretch}
use Rattle.rc_shares.proofs.StretchLaws.{stretch_up}
use Rattle.rc_shares.specs.Making.{AreMade, IsGiven}

-- what is made of the things from one number on, by their numbers, is what is made of each of them
made_of : {X Y : Type 0} (made : X → Y → Type 0) (by_number : ℕ → Y → Type 0) (xs : List X) (a : ℕ) (ys : List Y)
    → ((i : ℕ) (y : Y) → i < length xs → by_number (a + i) y → (d : X) → made (slice_index_or xs i d) y) → IsStretch by_number a (a + length xs) ys → AreMade made xs ys
unfolding IsStretch
made_of made by_number [] a [] each is = tt
made_of made by_number [] a (y ∷ ys) each is = (let up = stretch_up by_number (a + 1) (a + 0) ys is.1 in absurd (let none : ⊥ = omega (arith, up) in none))
made_of made by_number (x ∷ xs) a [] each is = absurd (let none : ⊥ = omega (arith, is) in none)
made_of made by_number (x ∷ xs) a (y ∷ ys) each is =
    let first : by_number (a + 0) y = subst (λ k. by_number k y) (let e : a ≡ a + 0 = omega arith in e) is.0 in
    let rest : IsStretch by_number (a + 1) (a + 1 + length xs) ys = subst (λ k. IsStretch by_number (a + 1) k ys) (let e : a + length (x ∷ xs) ≡ a + 1 + length xs = omega arith in e) is.1 in
    (each 0 y (omega arith) first x, made_of made by_number xs (a + 1) ys (λ i z less there. each (suc i) z (omega (arith, less)) (subst (λ k. by_number k z) (let e : a + 1 + i ≡ a + suc i = omega arith in e) there)) rest)

-- from the first on
pub made_of_all : {X Y : Type 0} (made : X → Y → Type 0) (xs : List X) (ys : List Y) → IsStretch (λ i y. (d : X) → made (slice_index_or xs i d) y) 0 (length xs) ys → AreMade made xs ys
made_of_all {X} made xs ys is =
    made_of made (λ i y. (d : X) → made (slice_index_or xs i d) y) xs 0 ys
    (λ i y less there. subst (λ k. (d : X) → made (slice_index_or xs k d) y) (let e : 0 + i ≡ i = omega arith in e) there)
    (subst (λ n. IsStretch (λ i y. (d : X) → made (slice_index_or xs i d) y) 0 n ys) (let e : length xs ≡ 0 + length xs = omega arith in e) is)

module _ {X Y : Type 0} (give : X → Y) (kind : Y → Type 0) where
  pub is_given : (x : X) (r : Result Y AllocError) → IfOk r (λ y. y ≡ give x) → IfOk r kind → IfOk r (IsGiven give kind x)
  is_given x (Ok y) is holds = record { value = is; is_of_kind = holds }
  is_given x (Err e) is holds = tt

  pub all_given : (xs : List X) (ys : List Y) → AreMade (IsGiven give kind) xs ys → ys ≡ map give xs
  all_given [] [] all = refl
  all_given [] (y ∷ ys) all = absurd all
  all_given (x ∷ xs) [] all = absurd all
  all_given (x ∷ xs) (y ∷ ys) all = ap (λ z. z ∷ ys) all.0.value ∙ ap (λ zs. give x ∷ zs) (all_given xs ys all.1)

  pub all_of_kind : (xs : List X) (ys : List Y) → AreMade (IsGiven give kind) xs ys → All kind ys
  all_of_kind xs [] all = λ k d lt. absurd (omega (arith, lt))
  all_of_kind [] (y ∷ ys) all = absurd all
  all_of_kind (x ∷ xs) (y ∷ ys) all = All-cons kind y ys all.0.is_of_kind (all_of_kind xs ys all.1)
