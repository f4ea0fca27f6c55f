-- What `in_order` makes of a list: it is in order, and has the same elements.
use Rattle.std.proofs.Common.{refl, ◌≡◌, ap, sym, ◌∙◌, ℕ, Bool, true, false, ◌||◌, List, [], ◌∷◌}
use Rattle.std.specs.List.{list_any, fold, AllByRecursion}
use Rattle.std.specs.List.Sorted.{IsStrictlySortedBy}
use Rattle.std.specs.Ordering.{match_ordering, ordering_reverse}
use Rattle.std.specs.declared.cmp.Ordering.{Ordering}
use Rattle.std.specs.declared.cmp.Ordering.TheVariants.{Less, Equal, Greater}
use Rattle.std.specs.Cmp.{IsTotalOrder, on_total}
use Rattle.std.specs.Cmp.Lexicographic.{nat_list_cmp_total}
use Rattle.std.specs.FinMap.{slice_cmp-IsAntisymmetric, nat_cmp-IsAntisymmetric}
use Rattle.std.specs.BTreeSet.{insert_key}
use Rattle.rc_base.specs.Prefix.{Cidr, prefix_key, prefix_cmp}
use Rattle.rc_base.specs.Lists.{in_order}

pub all-weaker : {K : Type 0} (P Q : K → Type 0) → ((x : K) → P x → Q x) → (xs : List K) → AllByRecursion P xs → AllByRecursion Q xs
all-weaker P Q f [] h = tt
all-weaker P Q f (x ∷ xs) h = (f x h.0, all-weaker P Q f xs h.1)

again : (a b : Bool) → (a || b) ≡ (a || (a || b))
again true b = refl
again false b = refl

turned : (a b c : Bool) → (a || (b || c)) ≡ (b || (a || c))
turned true true c = refl
turned true false c = refl
turned false b c = refl

or_assoc : (a b c : Bool) → ((a || b) || c) ≡ (a || (b || c))
or_assoc true b c = refl
or_assoc false b c = refl

or_swap : (a b c : Bool) → ((a || b) || c) ≡ (b || (a || c))
or_swap a b c = or_assoc a b c ∙ turned a b c

or_false : (b : Bool) → b ≡ (b || false)
or_false true = refl
or_false false = refl

module _ {K : Type 0} (R : K → K → Ordering) where
  all-insert : (P : K → Type 0) (k : K) (ks : List K) → AllByRecursion P ks → P k → AllByRecursion P (insert_key R ks k)
  all-insert P k [] h p = (p, tt)
  all-insert P k (x ∷ xs) h p =
      let rest = all-insert P k xs h.1 p in
      elim (R k x) as (λ r. AllByRecursion P (match_ordering r (k ∷ x ∷ xs) (x ∷ xs) (x ∷ insert_key R xs k))) [ Less ↦ (p, h) | Equal ↦ h | Greater ↦ (h.0, rest) ]

  pub sorted-insert : IsTotalOrder R → (k : K) (ks : List K) → IsStrictlySortedBy R ks → IsStrictlySortedBy R (insert_key R ks k)
  unfolding IsStrictlySortedBy
  sorted-insert o k [] h = (tt, tt)
  sorted-insert o k (x ∷ xs) h =
      let rest = sorted-insert o k xs h.1 in
      elim (R k x) as (λ r. R k x ≡ r → IsStrictlySortedBy R (match_ordering r (k ∷ x ∷ xs) (x ∷ xs) (x ∷ insert_key R xs k))) [
        | Less ↦ λ e. ((e, all-weaker (λ y. R x y ≡ Less) (λ y. R k y ≡ Less) (λ y less. o.trans k x y e less) xs h.0), h)
        | Equal ↦ λ e. h
        | Greater ↦ λ e. (all-insert (λ y. R x y ≡ Less) k xs h.0 (o.antisymm x k ∙ ap ordering_reverse e), rest)
      ] refl

  sorted-fold : IsTotalOrder R → (xs ks : List K) → IsStrictlySortedBy R ks → IsStrictlySortedBy R (fold (insert_key R) ks xs)
  sorted-fold o [] ks h = h
  sorted-fold o (x ∷ xs) ks h = sorted-fold o xs (insert_key R ks x) (sorted-insert o x ks h)

  -- the elements in order strictly rise
  pub in_order-sorted : IsTotalOrder R → (xs : List K) → IsStrictlySortedBy R (in_order R xs)
  unfolding IsStrictlySortedBy
  in_order-sorted o xs = sorted-fold o xs [] tt

  module _ (same : (x y : K) → R x y ≡ Equal → x ≡ y) (p : K → Bool) where
    any-insert : (k : K) (ks : List K) → list_any p (insert_key R ks k) ≡ (p k || list_any p ks)
    any-insert k [] = refl
    any-insert k (x ∷ xs) =
        let rest = any-insert k xs in
        elim (R k x) as (λ r. R k x ≡ r → list_any p (match_ordering r (k ∷ x ∷ xs) (x ∷ xs) (x ∷ insert_key R xs k)) ≡ (p k || list_any p (x ∷ xs))) [
          | Less ↦ λ e. refl
          | Equal ↦ λ e. again (p x) (list_any p xs) ∙ ap (λ q. p q || (p x || list_any p xs)) (sym (same k x e))
          | Greater ↦ λ e. ap (λ b. p x || b) rest ∙ turned (p x) (p k) (list_any p xs)
        ] refl

    any-fold : (xs ks : List K) → list_any p (fold (insert_key R) ks xs) ≡ (list_any p ks || list_any p xs)
    any-fold [] ks = or_false (list_any p ks)
    any-fold (x ∷ xs) ks =
        any-fold xs (insert_key R ks x) ∙ ap (λ b. b || list_any p xs) (any-insert x ks) ∙ or_swap (p x) (list_any p ks) (list_any p xs)

    -- some element passes exactly if some element in order does
    pub any-in_order : (xs : List K) → list_any p (in_order R xs) ≡ list_any p xs
    any-in_order xs = any-fold xs []

-- ---- prefixes

pub prefix_cmp_total : IsTotalOrder prefix_cmp
prefix_cmp_total = on_total prefix_key nat_list_cmp_total

pub same_by_prefix_cmp : (p q : Cidr) → prefix_cmp p q ≡ Equal → p ≡ q
same_by_prefix_cmp p q e =
    let keys : prefix_key p ≡ prefix_key q = slice_cmp-IsAntisymmetric nat_cmp-IsAntisymmetric (prefix_key p) (prefix_key q) e in
    ap back keys
  where
    back : List ℕ → Cidr
    back (n ∷ l ∷ []) = record { network = n; len = l }
    back _ = record { network = 0; len = 0 }
