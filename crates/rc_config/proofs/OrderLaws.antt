-- Names in byte order.
use Rattle.std.proofs.Common.{refl, ◌≡◌, ◌∙◌, ◌<◌, suc, get_or, length, arith, ℕ, true, false, List, [], ◌∷◌, ap}
use Rattle.std.specs.Cmp.Lexicographic.{bytes_decides, slice_cmp, nat_list_cmp_total}
use Rattle.std.specs.FinMap.{slice_cmp-IsAntisymmetric, nat_cmp-IsAntisymmetric}
use Rattle.std.specs.List.{AllByRecursion, IsDistinct}
use Rattle.std.specs.List.Sorted.{IsSorted, IsStrictlySortedBy}
use Rattle.std.specs.Ordering.{nat_cmp, is_lt, ordering_reverse}
use Rattle.std.specs.declared.cmp.Ordering.{Ordering}
use Rattle.std.specs.declared.cmp.Ordering.TheVariants.{Less, Equal, Greater}
use Rattle.rc_base.proofs.SortedLaws.{sorted-tail, head_is_first}
use Rattle.rc_base.specs.Name.{same_name}

-- what holds of each element by its index holds of all
all-from : {A : Type 0} (P : A → Type 0) (xs : List A) → ((k : ℕ) (d : A) → k < length xs → P (get_or xs k d)) → AllByRecursion P xs
all-from P [] each = tt
all-from P (x ∷ xs) each = (each 0 x (omega arith), all-from P xs (λ k d lt. each (suc k) d (omega arith)))

all-both : {A : Type 0} (P Q S : A → Type 0) → ((x : A) → P x → Q x → S x) → (xs : List A) → AllByRecursion P xs → AllByRecursion Q xs → AllByRecursion S xs
all-both P Q S both [] p q = tt
all-both P Q S both (x ∷ xs) p q = (both x p.0 q.0, all-both P Q S both xs p.1 q.1)

abbrev order : List ℕ → List ℕ → Ordering
order = slice_cmp nat_cmp

-- a text that isn't above another one, and isn't the same, is below it
below : (x y : List ℕ) → is_lt (order y x) ≡ false → same_name x y ≡ false → order x y ≡ Less
below x y not_above other = by (order x y) refl
  where
    by : (r : Ordering) → order x y ≡ r → order x y ≡ Less
    by Less e = e
    by Equal e =
        let same : same_name x y ≡ true = (bytes_decides x y).1 (slice_cmp-IsAntisymmetric nat_cmp-IsAntisymmetric x y e) in
        absurd (cc)
    by Greater e =
        let turned : order y x ≡ Less = nat_list_cmp_total.antisymm y x ∙ ap ordering_reverse e in
        let above : is_lt (order y x) ≡ true = ap is_lt turned in
        absurd (cc)

-- sorted names without repeats rise
pub sorted_distinct : (names : List (List ℕ)) → IsSorted order names → IsDistinct same_name names → IsStrictlySortedBy order names
unfolding IsStrictlySortedBy IsDistinct
sorted_distinct [] sorted distinct = tt
sorted_distinct (x ∷ xs) sorted distinct =
    let least : AllByRecursion (λ y. is_lt (order y x) ≡ false) xs =
    all-from (λ y. is_lt (order y x) ≡ false) xs (λ k d lt. head_is_first order nat_list_cmp_total x xs sorted (suc k) d (omega arith)) in
    (all-both (λ y. is_lt (order y x) ≡ false) (λ y. same_name x y ≡ false) (λ y. order x y ≡ Less) (below x) xs least distinct.0, sorted_distinct xs (sorted-tail order x xs sorted) distinct.1)
