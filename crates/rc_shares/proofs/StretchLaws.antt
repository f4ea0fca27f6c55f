-- What is made of items, stretch by stretch.
use Rattle.std.proofs.Common.{◌≡◌, ℕ, ◌+◌, ◌≤◌, List, [], ◌∷◌, ◌++◌, Result, Ok, Err, IfOk, refl, sym, subst, arith}
use Rattle.std.specs.declared.alloc.AllocError.{AllocError}
use Rattle.rc_shares.specs.Stretches.{IsStretch}

module _ {X : Type 0} (makes : ℕ → X → Type 0) where
  pub nothing_made : (a : ℕ) → IsStretch makes a a []
  unfolding IsStretch
  nothing_made a = refl

  -- two neighbouring stretches
  pub stretches_join : (a b c : ℕ) (xs ys : List X) → IsStretch makes a b xs → IsStretch makes b c ys → IsStretch makes a c (xs ++ ys)
  unfolding IsStretch
  stretches_join a b c [] ys left right = subst (λ k. IsStretch makes k c ys) (sym left) right
  stretches_join a b c (x ∷ xs) ys left right = (left.0, stretches_join (a + 1) b c xs ys left.1 right)

  -- one item more
  pub one_made : (a b : ℕ) (xs : List X) (x : X) → IsStretch makes a b xs → makes b x → IsStretch makes a (b + 1) (xs ++ x ∷ [])
  unfolding IsStretch
  one_made a b xs x so_far is = stretches_join a b (b + 1) xs (x ∷ []) so_far (is, refl)

  pub stretch_up : (a b : ℕ) (xs : List X) → IsStretch makes a b xs → a ≤ b
  unfolding IsStretch
  stretch_up a b [] is = omega (arith, is)
  stretch_up a b (x ∷ xs) is = (let up = stretch_up (a + 1) b xs is.1 in omega (arith, up))

  -- two lists that are put together, where both are there
  pub both_made : (left right : Result (List X) AllocError) (r : Result (List X) AllocError) (a b c : ℕ) → IfOk r (λ all. (xs : List X) × (ys : List X) × (left ≡ Ok xs) × (right ≡ Ok ys) × (all ≡ xs ++ ys))
      → IfOk left (IsStretch makes a b) → IfOk right (IsStretch makes b c) → IfOk r (IsStretch makes a c)
  both_made left right (Err e) a b c is l r = tt
  both_made left right (Ok all) a b c (xs, ys, is_left, is_right, is) l r =
      subst (IsStretch makes a c) (sym is) (stretches_join a b c xs ys (subst (λ o. IfOk o (IsStretch makes a b)) is_left l) (subst (λ o. IfOk o (IsStretch makes b c)) is_right r))
