-- A sorted list is told by its elements: two sorted lists with the same elements are the same list.
use Rattle.std.proofs.Common.{refl, ◌≡◌, ap, sym, ◌∙◌, ℕ, suc, ◌+◌, ◌<◌, Bool, true, false, List, [], ◌∷◌, length, get_or, sum_by, arith, add-one}
use Rattle.std.specs.List.Sorted.{IsPermutation, IsSorted}
use Rattle.std.specs.Ordering.{ordering_reverse, is_lt, nat_cmp}
use Rattle.std.specs.declared.cmp.Ordering.{Ordering}
use Rattle.std.specs.declared.cmp.Ordering.TheVariants.{Less, Equal, Greater}
use Rattle.std.specs.Cmp.{IsTotalOrder}
use Rattle.std.specs.Cmp.Lexicographic.{slice_cmp, nat_list_cmp_total}
use Rattle.std.specs.FinMap.{slice_cmp-IsAntisymmetric, nat_cmp-IsAntisymmetric}
use Rattle.std.proofs.lemmas.List.Sorted.{IsPermutation-sym, IsPermutation-trans, sum_by-IsPermutation, sorted_far, ranks_by}
use Rattle.std.proofs.lemmas.List.Sums.{sum_by-cons}

-- whatever is counted, both lists have as much of it
pub record HasSameCounts {A : Type 0} (xs ys : List A) : Type 0 where
  pub same : (f : A → ℕ) → sum_by f xs ≡ sum_by f ys

pub same_counts : {A : Type 0} (xs ys : List A) → IsPermutation xs ys → HasSameCounts xs ys
same_counts xs ys moved = record { same = λ f. sym (sum_by-IsPermutation f xs ys moved) }

same_counts-tail : {A : Type 0} (x y : A) (xs ys : List A) → x ≡ y → HasSameCounts (x ∷ xs) (y ∷ ys) → HasSameCounts xs ys
same_counts-tail {A} x y xs ys e h = record {
  same = λ (f : A → ℕ). let heads : f x ≡ f y = ap f e in let left = sum_by-cons f x xs in let right = sum_by-cons f y ys in let whole = h.same f in omega arith;
}

not_empty : {A : Type 0} (x : A) (xs : List A) → HasSameCounts (x ∷ xs) [] → ⊥
not_empty x xs h = let one = sum_by-cons (λ _. 1) x xs in let none = h.same (λ _. 1) in omega arith

same_counts-turned : {A : Type 0} (xs ys : List A) → HasSameCounts xs ys → HasSameCounts ys xs
same_counts-turned xs ys h = record { same = λ f. sym (h.same f) }

one_if : Bool → ℕ
one_if true = 1
one_if false = 0

not_counted : (b : Bool) (n : ℕ) → one_if b + n ≡ 0 → b ≡ false
unfolding one_if
not_counted true n e = absurd (omega arith)
not_counted false n e = refl

none_counted : {A : Type 0} (p : A → Bool) (xs : List A) → ((k : ℕ) (d : A) → k < length xs → p (get_or xs k d) ≡ false) → sum_by (λ x. one_if (p x)) xs ≡ 0
unfolding one_if
none_counted p [] none = refl
none_counted p (x ∷ xs) none =
    let head : one_if (p x) ≡ 0 = ap one_if (none 0 x (omega arith)) in
    let rest = none_counted p xs (λ k d lt. none (suc k) d (omega arith)) in
    sum_by-cons (λ y. one_if (p y)) x xs ∙ omega arith

neither : (r : Ordering) → is_lt r ≡ false → is_lt (ordering_reverse r) ≡ false → r ≡ Equal
neither Less e f = absurd (cc)
neither Equal e f = refl
neither Greater e f = absurd (cc)

module _ {A : Type 0} (R : A → A → Ordering) where
  pub sorted-tail : (x : A) (xs : List A) → IsSorted R (x ∷ xs) → IsSorted R xs
  sorted-tail x xs up k d low lt = ap (λ n. is_lt (R (get_or xs n d) (get_or xs k d))) (add-one k) ∙ up' k d lt
    where
      up' : (k : ℕ) (d : A) → k + 1 < length xs → is_lt (R (get_or xs (suc k) d) (get_or xs k d)) ≡ false
      up' k d lt = ap (λ n. is_lt (R (get_or (x ∷ xs) n d) (get_or (x ∷ xs) (suc k) d))) (sym (add-one (suc k))) ∙ up (suc k) d (omega arith) (omega arith)

  module _ (o : IsTotalOrder R) where
    -- no element comes before the head
    pub head_is_first : (x : A) (xs : List A) → IsSorted R (x ∷ xs) → (k : ℕ) (d : A) → k < length (x ∷ xs) → is_lt (R (get_or (x ∷ xs) k d) x) ≡ false
    head_is_first x xs up k d lt = sorted_far (λ a b. is_lt (R a b)) (ranks_by o (λ a. a)) (x ∷ xs) up 0 k d (omega arith) lt

    -- nor before an element with which another order of them begins
    not_before : (x y : A) (xs ys : List A) → HasSameCounts (x ∷ xs) (y ∷ ys) → IsSorted R (x ∷ xs) → is_lt (R y x) ≡ false
    not_before x y xs ys h up =
        let before : A → Bool = λ z. is_lt (R z x) in
        let count : A → ℕ = λ z. one_if (before z) in
        let none : sum_by count (x ∷ xs) ≡ 0 = none_counted before (x ∷ xs) (head_is_first x xs up) in
        not_counted (before y) (sum_by count ys) (sym (sum_by-cons count y ys) ∙ sym (h.same count) ∙ none)

    module _ (same : (x y : A) → R x y ≡ Equal → x ≡ y) where
      pub same_sorted_counts : (xs ys : List A) → HasSameCounts xs ys → IsSorted R xs → IsSorted R ys → xs ≡ ys
      same_sorted_counts [] [] h up up' = refl
      same_sorted_counts [] (y ∷ ys) h up up' = absurd (not_empty y ys (same_counts-turned [] (y ∷ ys) h))
      same_sorted_counts (x ∷ xs) [] h up up' = absurd (not_empty x xs h)
      same_sorted_counts (x ∷ xs) (y ∷ ys) h up up' =
          let later = not_before x y xs ys h up in
          let sooner = not_before y x ys xs (same_counts-turned (x ∷ xs) (y ∷ ys) h) up' in
          let heads : x ≡ y = same x y (neither (R x y) sooner (ap is_lt (sym (o.antisymm y x)) ∙ later)) in
          let tails : xs ≡ ys = same_sorted_counts xs ys (same_counts-tail x y xs ys heads h) (sorted-tail x xs up) (sorted-tail y ys up') in
          λ i. heads i ∷ tails i

-- two sorted lists with the same elements are the same list
pub same_sorted : {A : Type 0} (R : A → A → Ordering) → IsTotalOrder R → ((x y : A) → R x y ≡ Equal → x ≡ y) → (xs ys : List A) → IsPermutation xs ys → IsSorted R xs → IsSorted R ys → xs ≡ ys
same_sorted R o same xs ys moved = same_sorted_counts R o same xs ys (same_counts xs ys moved)

pub same_sorted_texts : (xs ys : List (List ℕ)) → IsPermutation xs ys → IsSorted (slice_cmp nat_cmp) xs → IsSorted (slice_cmp nat_cmp) ys → xs ≡ ys
same_sorted_texts = same_sorted (slice_cmp nat_cmp) nat_list_cmp_total (slice_cmp-IsAntisymmetric nat_cmp-IsAntisymmetric)

-- however the names are sorted, it is the same list
pub one_sorted_list : (names a b : List (List ℕ)) → IsPermutation names a → IsSorted (slice_cmp nat_cmp) a → IsPermutation names b → IsSorted (slice_cmp nat_cmp) b → a ≡ b
one_sorted_list names a b to_a up to_b up' = same_sorted_texts a b (IsPermutation-trans a names b (IsPermutation-sym names a to_a) to_b) up up'
