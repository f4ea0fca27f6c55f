-- Things that are put in by number: they stay in order, and all keep what holds of each.
use Rattle.std.proofs.Common.{◌≡◌, ℕ, suc, ◌<◌, ◌==◌, Bool, true, false, not, cond, nat_lt, List, [], ◌∷◌, Some, None, refl, sym, ap, subst, ◌∙◌, arith, ◌⊎◌, inl, inr}
use Rattle.std.specs.Prelude.{All}
use Rattle.std.proofs.lemmas.Bool.{ltb-true, ltb-false, lt-ltb, le-ltb, eqb-true, eqb-false, eq-eqb, ne_eqb, cases_order}
use Rattle.std.proofs.lemmas.List.Elements.{All-nil, All-cons, All-head, All-tail}
use Rattle.std.proofs.lemmas.List.Kept.{AllPairs-cons}
use Rattle.std.proofs.lemmas.Option.{none-some}
use Rattle.rc_config.specs.ByNumber.{IsByNumber, placed, with_number, without_number}

module _ {A : Type 0} (number : A → ℕ) where
  -- ---- one more by its number
  after_first : (x : A) (xs : List A) → IsByNumber number (x ∷ xs) → All (λ y. number x < number y) xs
  after_first x xs o = λ k d within. o 0 (suc k) d (omega arith) (omega arith)

  of_rest : (x : A) (xs : List A) → IsByNumber number (x ∷ xs) → IsByNumber number xs
  of_rest x xs o = λ i j d less within. o (suc i) (suc j) d (omega arith) (omega arith)

  pub placed-All : (P : A → Type 0) (x : A) (xs : List A) → P x → All P xs → All P (placed number x xs)
  placed-All P x [] p h = All-cons P x [] p (All-nil P)
  placed-All P x (y ∷ ys) p h = by (nat_lt (number x) (number y)) (number x == number y) (placed-All P x ys p (All-tail P y ys h))
    where
      by : (less same : Bool) → All P (placed number x ys) → All P (cond less (x ∷ y ∷ ys) (cond same (x ∷ ys) (y ∷ placed number x ys)))
      by true same rest = All-cons P x (y ∷ ys) p h
      by false true rest = All-cons P x ys p (All-tail P y ys h)
      by false false rest = All-cons P y (placed number x ys) (All-head P y ys h) rest

  pub placed_in_order : (x : A) (xs : List A) → IsByNumber number xs → IsByNumber number (placed number x xs)
  placed_in_order x [] o = AllPairs-cons (λ y z. number y < number z) x [] (All-nil (λ y. number x < number y)) o
  placed_in_order x (y ∷ ys) o = by (nat_lt (number x) (number y)) (number x == number y) refl refl (placed_in_order x ys (of_rest y ys o))
    where
      behind : All (λ z. number y < number z) ys
      behind = after_first y ys o

      by : (less same : Bool) → nat_lt (number x) (number y) ≡ less → (number x == number y) ≡ same → IsByNumber number (placed number x ys)
          → IsByNumber number (cond less (x ∷ y ∷ ys) (cond same (x ∷ ys) (y ∷ placed number x ys)))
      by true same low e rest =
          let lower : number x < number y = ltb-true _ _ low in
          AllPairs-cons (λ z w. number z < number w) x (y ∷ ys) (All-cons (λ z. number x < number z) y ys lower (λ k d within. let up = behind k d within in omega arith)) o
      by false true low e rest =
          let is : number x ≡ number y = eqb-true _ _ e in
          AllPairs-cons (λ z w. number z < number w) x ys (λ k d within. let up = behind k d within in omega arith) (of_rest y ys o)
      by false false low e rest =
          let higher : number y < number x = (let not_less = ltb-false _ _ low in let differs = eqb-false _ _ e in omega arith) in
          AllPairs-cons (λ z w. number z < number w) y (placed number x ys) (placed-All (λ z. number y < number z) x ys higher behind) rest

  -- ---- taken out and put in again
  none_out : (n : ℕ) (xs : List A) → All (λ x. n < number x) xs → without_number number n xs ≡ xs
  none_out n [] above = refl
  none_out n (x ∷ xs) above =
      let up = All-head (λ y. n < number y) x xs above in
      ap (λ b. cond (not b) (x ∷ without_number number n xs) (without_number number n xs)) (ne_eqb (number x) n (λ e. omega arith))
      ∙ ap (λ ys. x ∷ ys) (none_out n xs (All-tail (λ y. n < number y) x xs above))

  first_placed : (x : A) (xs : List A) → All (λ y. number x < number y) xs → placed number x xs ≡ x ∷ xs
  first_placed x [] above = refl
  first_placed x (y ∷ ys) above = ap (λ b. cond b (x ∷ y ∷ ys) (cond (number x == number y) (x ∷ ys) (y ∷ placed number x ys))) (lt-ltb _ _ (All-head (λ y. number x < number y) y ys above))

  -- the one of this number is replaced, whether or not it is taken out before
  pub placed_over : (x : A) (xs : List A) → IsByNumber number xs → placed number x (without_number number (number x) xs) ≡ placed number x xs
  placed_over x [] o = refl
  placed_over x (y ∷ ys) o = by (cases_order (number x) (number y)) (placed_over x ys (of_rest y ys o))
    where
      behind : All (λ z. number y < number z) ys
      behind = after_first y ys o

      kept : ¬ (number x ≡ number y) → without_number number (number x) (y ∷ ys) ≡ y ∷ without_number number (number x) ys
      kept other = ap (λ b. cond (not b) (y ∷ without_number number (number x) ys) (without_number number (number x) ys)) (ne_eqb (number y) (number x) (λ e. other (sym e)))

      by : (number x ≡ number y) ⊎ ((number x < number y) ⊎ (number y < number x)) → placed number x (without_number number (number x) ys) ≡ placed number x ys
          → placed number x (without_number number (number x) (y ∷ ys)) ≡ placed number x (y ∷ ys)
      by (inl same) rest =
          let above : All (λ z. number x < number z) ys = λ k d within. (let up = behind k d within in omega arith) in
          let out : without_number number (number x) (y ∷ ys) ≡ ys =
          ap (λ b. cond (not b) (y ∷ without_number number (number x) ys) (without_number number (number x) ys)) (eq-eqb (number y) (number x) (sym same)) ∙ none_out (number x) ys above in
          let not_less : nat_lt (number x) (number y) ≡ false = le-ltb _ _ (omega arith) in
          let is : (number x == number y) ≡ true = eq-eqb _ _ same in
          ap (placed number x) out ∙ first_placed x ys above
          ∙ sym (ap (λ b. cond b (x ∷ y ∷ ys) (cond (number x == number y) (x ∷ ys) (y ∷ placed number x ys))) not_less ∙ ap (λ b. cond b (x ∷ ys) (y ∷ placed number x ys)) is)
      by (inr (inl lower)) rest =
          let above : All (λ z. number x < number z) ys = λ k d within. (let up = behind k d within in omega arith) in
          ap (placed number x) (kept (λ e. omega arith) ∙ ap (λ zs. y ∷ zs) (none_out (number x) ys above))
      by (inr (inr higher)) rest =
          let not_less : nat_lt (number x) (number y) ≡ false = le-ltb _ _ (omega arith) in
          let other : (number x == number y) ≡ false = ne_eqb _ _ (λ e. omega arith) in
          let step : (zs : List A) → placed number x (y ∷ zs) ≡ y ∷ placed number x zs
          = λ zs. ap (λ b. cond b (x ∷ y ∷ zs) (cond (number x == number y) (x ∷ zs) (y ∷ placed number x zs))) not_less ∙ ap (λ b. cond b (x ∷ zs) (y ∷ placed number x zs)) other in
          ap (placed number x) (kept (λ e. omega arith)) ∙ step (without_number number (number x) ys) ∙ ap (λ zs. y ∷ zs) rest ∙ sym (step ys)

  -- the one that is found has the number
  pub found_number : (n : ℕ) (xs : List A) (x : A) → with_number number n xs ≡ Some x → number x ≡ n
  found_number n [] x e = absurd (none-some x e)
  found_number n (y ∷ ys) x e = by (number y == n) refl e (found_number n ys x)
    where
      by : (b : Bool) → (number y == n) ≡ b → cond b (Some y) (with_number number n ys) ≡ Some x → (with_number number n ys ≡ Some x → number x ≡ n) → number x ≡ n
      by true is found rest = let same : y ≡ x = cc found in subst (λ z. number z ≡ n) same (eqb-true _ _ is)
      by false other found rest = rest found

  -- where none has the number, none is taken out
  pub none_taken : (n : ℕ) (xs : List A) → with_number number n xs ≡ None → without_number number n xs ≡ xs
  none_taken n [] e = refl
  none_taken n (x ∷ xs) e = by (number x == n) e (none_taken n xs)
    where
      by : (b : Bool) → cond b (Some x) (with_number number n xs) ≡ None → (with_number number n xs ≡ None → without_number number n xs ≡ xs)
          → cond (not b) (x ∷ without_number number n xs) (without_number number n xs) ≡ x ∷ xs
      by true found rest = absurd (none-some x (sym found))
      by false none rest = ap (λ ys. x ∷ ys) (rest none)
