-- Communities: what a sort and a bisection make of their numbers, and that a set is told by its members.
use Rattle.std.proofs.Common.{refl, ◌≡◌, ap, sym, subst, ◌∙◌, ℕ, ◌<◌, ◌≤◌, ◌==◌, Bool, true, false, not, cond, ◌&&◌, ◌||◌, ◌⊎◌, inl, inr, List, [], ◌∷◌, length, get_or, Result, Ok, Err, MatchResult, arith, eqb}
use Rattle.std.specs.List.{list_any, dedup, dedup_from, AllByRecursion}
use Rattle.std.specs.List.Retain.{IsFiltered, DiffersFromLast}
use Rattle.std.specs.List.Sorted.{IsPermutation, IsSorted, IsStrictlySortedBy, IsSearchInRange, IsBinarySearchResult}
use Rattle.std.specs.Ordering.{is_eq, is_lt, nat_cmp, ordering_reverse}
use Rattle.std.specs.Result.{is_ok}
use Rattle.std.specs.declared.cmp.Ordering.{Ordering}
use Rattle.std.specs.declared.cmp.Ordering.TheVariants.{Less, Equal, Greater}
use Rattle.std.specs.Cmp.{IsTotalOrder}
use Rattle.std.specs.FinMap.{nat_cmp-IsAntisymmetric}
use Rattle.std.proofs.lemmas.Bool.{eqb-true, ne_eqb, eq-eqb, cases_lt, or_parts}
use Rattle.std.proofs.lemmas.Cmp.{nat_cmp_total}
use Rattle.std.proofs.lemmas.List.{get_or_default}
use Rattle.std.proofs.lemmas.List.Filters.{dedup_is}
use Rattle.std.proofs.lemmas.List.Folds.{list_any_at, list_any_none}
use Rattle.std.proofs.lemmas.List.Sorted.{list_any-IsPermutation, searched}
use Rattle.std.proofs.lemmas.Map.Keys.{sorted_from_strictly_increasing, IsStrictlyIncreasing-dedup, non_decreasing_from_sorted}
use Rattle.rc_base.specs.Communities.{community_set, has_community}
use Rattle.rc_base.specs.Lists.{in_order}
use Rattle.rc_base.proofs.OrderedLaws.{in_order-sorted, any-in_order}

-- ---- a list in order is told by its elements
and_true : (b : Bool) → (b && true) ≡ b
and_true true = refl
and_true false = refl

and_false : (b : Bool) → (b && false) ≡ false
and_false true = refl
and_false false = refl

neither : (r : Ordering) → is_lt r ≡ false → is_lt (ordering_reverse r) ≡ false → r ≡ Equal
neither Less e f = absurd (cc)
neither Equal e f = refl
neither Greater e f = absurd (cc)

module _ {K : Type 0} (R : K → K → Ordering) (o : IsTotalOrder R) where
  turned : (x y : K) (r : Ordering) → R x y ≡ r → R y x ≡ ordering_reverse r
  turned x y r e = o.antisymm y x ∙ ap ordering_reverse e

  itself : (x : K) → R x x ≡ Equal
  itself x = by (R x x) refl (o.antisymm x x)
    where
      by : (r : Ordering) → R x x ≡ r → R x x ≡ ordering_reverse (R x x) → R x x ≡ Equal
      by Less e f = absurd (cc (ap ordering_reverse e))
      by Equal e f = e
      by Greater e f = absurd (cc (ap ordering_reverse e))

  -- none of a list in order comes before its head
  none_before : (x : K) (xs : List K) → AllByRecursion (λ y. R x y ≡ Less) xs → list_any (λ z. is_lt (R z x)) xs ≡ false
  none_before x [] later = refl
  none_before x (y ∷ ys) later = ap (λ b. b || list_any (λ z. is_lt (R z x)) ys) (ap is_lt (turned x y Less later.0)) ∙ none_before x ys later.1

  -- all but the head, by a test that leaves the head out
  but_the_head : K → (K → Bool) → K → Bool
  but_the_head x p z = p z && not (is_eq (R z x))

  behind_the_head : (p : K → Bool) (x : K) (xs : List K) → AllByRecursion (λ y. R x y ≡ Less) xs → list_any (but_the_head x p) xs ≡ list_any p xs
  unfolding but_the_head
  behind_the_head p x [] later = refl
  behind_the_head p x (y ∷ ys) later =
      ap (λ r. (p y && not (is_eq r)) || list_any (but_the_head x p) ys) (turned x y Less later.0)
      ∙ ap (λ b. b || list_any (but_the_head x p) ys) (and_true (p y))
      ∙ ap (λ b. p y || b) (behind_the_head p x ys later.1)

  without_head : (p : K → Bool) (x : K) (xs : List K) → AllByRecursion (λ y. R x y ≡ Less) xs → list_any (but_the_head x p) (x ∷ xs) ≡ list_any p xs
  unfolding but_the_head
  without_head p x xs later =
      ap (λ r. (p x && not (is_eq r)) || list_any (but_the_head x p) xs) (itself x)
      ∙ ap (λ b. b || list_any (but_the_head x p) xs) (and_false (p x))
      ∙ behind_the_head p x xs later

  none_first : (x : K) (xs : List K) → AllByRecursion (λ y. R x y ≡ Less) xs → list_any (λ z. is_lt (R z x)) (x ∷ xs) ≡ false
  none_first x xs later = ap (λ r. is_lt r || list_any (λ z. is_lt (R z x)) xs) (itself x) ∙ none_before x xs later

  module _ (same : (x y : K) → R x y ≡ Equal → x ≡ y) where
    -- two lists in order with the same elements are one list
    pub same_elements : (xs ys : List K) → IsStrictlySortedBy R xs → IsStrictlySortedBy R ys → ((p : K → Bool) → list_any p xs ≡ list_any p ys) → xs ≡ ys
    unfolding IsStrictlySortedBy
    same_elements [] [] up up' all = refl
    same_elements [] (y ∷ ys) up up' all = (let no : false ≡ true = all (λ z. true) in absurd (cc))
    same_elements (x ∷ xs) [] up up' all = (let no : true ≡ false = all (λ z. true) in absurd (cc))
    same_elements (x ∷ xs) (y ∷ ys) up up' all =
        let y_later : is_lt (R y x) ≡ false = (or_parts _ _ (sym (all (λ z. is_lt (R z x))) ∙ none_first x xs up.0)).0 in
        let x_later : is_lt (R x y) ≡ false = (or_parts _ _ (all (λ z. is_lt (R z y)) ∙ none_first y ys up'.0)).0 in
        let heads : x ≡ y = same x y (neither (R x y) x_later (ap is_lt (sym (o.antisymm y x)) ∙ y_later)) in
        let tails : xs ≡ ys = same_elements xs ys up.1 up'.1
        (λ p. sym (without_head p x xs up.0) ∙ all (but_the_head x p) ∙ ap (λ w. list_any (but_the_head w p) (y ∷ ys)) heads ∙ without_head p y ys up'.0) in
        λ i. heads i ∷ tails i

-- ---- a sort that leaves repeats out
again : (a b : Bool) → (a || b) ≡ (a || (a || b))
again true b = refl
again false b = refl

or_false : (b : Bool) → (b || false) ≡ b
or_false true = refl
or_false false = refl

any_dedup_from : (p : ℕ → Bool) (k : ℕ) (xs : List ℕ) → list_any p (dedup_from eqb k xs) ≡ (p k || list_any p xs)
any_dedup_from p k [] = refl
any_dedup_from p k (x ∷ xs) = by (eqb x k) refl (any_dedup_from p k xs) (any_dedup_from p x xs)
  where
    by : (b : Bool) → eqb x k ≡ b → list_any p (dedup_from eqb k xs) ≡ (p k || list_any p xs) → list_any p (dedup_from eqb x xs) ≡ (p x || list_any p xs)
        → list_any p (cond b (dedup_from eqb k xs) (k ∷ dedup_from eqb x xs)) ≡ (p k || (p x || list_any p xs))
    by true e as_last as_next = as_last ∙ again (p k) (list_any p xs) ∙ ap (λ n. p k || (p n || list_any p xs)) (sym (eqb-true x k e))
    by false e as_last as_next = ap (λ b. p k || b) as_next

any_dedup : (p : ℕ → Bool) (xs : List ℕ) → list_any p (dedup eqb xs) ≡ list_any p xs
any_dedup p [] = refl
any_dedup p (x ∷ xs) = any_dedup_from p x xs

-- numbers that were sorted, and then left once each, are their set
pub settled : (xs ys zs : List ℕ) → IsPermutation xs ys → IsSorted nat_cmp ys → IsFiltered (DiffersFromLast eqb) [] ys zs → zs ≡ community_set xs
settled xs ys zs moved up left =
    let once : zs ≡ dedup eqb ys = dedup_is eqb ys zs left in
    let rising : IsStrictlySortedBy nat_cmp (dedup eqb ys) = sorted_from_strictly_increasing (dedup eqb ys) (IsStrictlyIncreasing-dedup ys up) in
    once ∙ same_elements nat_cmp nat_cmp_total nat_cmp-IsAntisymmetric (dedup eqb ys) (in_order nat_cmp xs) rising (in_order-sorted nat_cmp nat_cmp_total xs)
    (λ p. any_dedup p ys ∙ sym (list_any-IsPermutation p xs ys moved) ∙ sym (any-in_order nat_cmp nat_cmp-IsAntisymmetric p xs))

-- and a set of numbers is rising
pub set_rises : (numbers xs : List ℕ) → numbers ≡ community_set xs → IsStrictlySortedBy nat_cmp numbers
set_rises numbers xs e = subst (IsStrictlySortedBy nat_cmp) (sym e) (in_order-sorted nat_cmp nat_cmp_total xs)

pub none_rise : (numbers : List ℕ) → numbers ≡ [] → IsStrictlySortedBy nat_cmp numbers
unfolding IsStrictlySortedBy
none_rise numbers e = rw e tt

-- ---- a bisection finds a number exactly where it is one of them
pub bisected : (xs : List ℕ) (n : ℕ) (r : Result ℕ ℕ) → IsStrictlySortedBy nat_cmp xs → IsSearchInRange r (length xs) → IsBinarySearchResult (λ y. nat_cmp y n) xs r → is_ok r ≡ has_community xs n
bisected xs n r up within told = at r within (searched xs n r told (λ i j le lt. non_decreasing_from_sorted xs up i j 0 le lt))
  where
    at : (r : Result ℕ ℕ) → IsSearchInRange r (length xs)
        → MatchResult r (λ i. (i < length xs) × (get_or xs i 0 ≡ n)) (λ i. (i ≤ length xs) × ((k : ℕ) → k < i → get_or xs k 0 < n) × ((k : ℕ) → i ≤ k → k < length xs → n < get_or xs k 0))
        → is_ok r ≡ has_community xs n
    at (Ok i) within found = sym (list_any_at (λ m. m == n) xs i 0 found.0 (eq-eqb _ _ found.1))
    at (Err i) within parted = sym (list_any_none (λ m. m == n) xs (λ k d lt. ne_eqb _ _ (λ is. differs k d lt is (cases_lt k i))))
      where
        differs : (k d : ℕ) → k < length xs → get_or xs k d ≡ n → (k < i) ⊎ (i ≤ k) → ⊥
        differs k d lt is (inl before) = (let low = parted.1 k before in let same = get_or_default xs k 0 d lt in omega arith)
        differs k d lt is (inr behind) = (let high = parted.2 k behind lt in let same = get_or_default xs k 0 d lt in omega arith)
