-- What is there for a prefix is found by bisection, where things stand in order of prefix, one for each.
use Rattle.std.proofs.Common.{refl, ◌≡◌, ◌⊎◌, ap, sym, ◌∙◌, subst, ℕ, zero, suc, ◌+◌, ◌<◌, ◌≤◌, true, false, cond, List, [], ◌∷◌, length, map, get_or, inl, inr, Some, None, Result, Ok, Err, IfOk, IfErr, arith}
use Rattle.std.specs.List.{slice_get}
use Rattle.std.specs.List.Sorted.{IsSortedBy, IsSearchInRange, IsBinarySearchResult}
use Rattle.std.specs.Ordering.{is_eq, is_lt, ordering_reverse}
use Rattle.std.specs.declared.cmp.Ordering.{Ordering}
use Rattle.std.specs.declared.cmp.Ordering.TheVariants.{Less, Equal, Greater}
use Rattle.std.proofs.lemmas.Bool.{cases_lt}
use Rattle.std.proofs.lemmas.List.{get_or-map, length-map}
use Rattle.std.proofs.lemmas.List.Sorted.{searchable_from_sorted}
use Rattle.std.proofs.lemmas.Map.Keys.{Less-from_sorted}
use Rattle.rc_base.specs.Prefix.{Cidr, prefix_cmp, same_prefix}
use Rattle.rc_base.specs.contracts.prefix.PrefixOrd.TheImpl as impl
use Rattle.rc_base.proofs.GroupLaws.{code_cmp}
use Rattle.rc_base.proofs.OrderedLaws.{prefix_cmp_total, same_by_prefix_cmp}
use Rattle.rc_route.specs.Tables.{IsListed, listed_at}

turned : (p q : Cidr) (o : Ordering) → prefix_cmp q p ≡ o → same_prefix p q ≡ is_eq (ordering_reverse o)
turned p q o e = ap is_eq (prefix_cmp_total.antisymm p q ∙ ap ordering_reverse e)

module _ {A : Type 0} (prefix_of : A → Cidr) (p : Cidr) where
  none_found : (listed : List A) → ((k : ℕ) (d : A) → k < length listed → same_prefix p (prefix_of (get_or listed k d)) ≡ false) → None ≡ listed_at prefix_of listed p
  none_found [] none = refl
  none_found (x ∷ xs) none =
      none_found xs (λ k d less. none (suc k) d (omega arith)) ∙ sym (ap (λ b. cond b (Some x) (listed_at prefix_of xs p)) (none 0 x (omega arith)))

  first_found : (listed : List A) (k : ℕ) → k < length listed → ((j : ℕ) (d : A) → j < k → same_prefix p (prefix_of (get_or listed j d)) ≡ false)
      → ((d : A) → same_prefix p (prefix_of (get_or listed k d)) ≡ true) → slice_get listed k ≡ listed_at prefix_of listed p
  first_found [] k within before here = absurd (omega (arith, within))
  first_found (x ∷ xs) zero within before here = sym (ap (λ b. cond b (Some x) (listed_at prefix_of xs p)) (here x))
  first_found (x ∷ xs) (suc k) within before here =
      first_found xs k (omega arith) (λ j d less. before (suc j) d (omega arith)) here
      ∙ sym (ap (λ b. cond b (Some x) (listed_at prefix_of xs p)) (before 0 x (omega arith)))

module _ {A : Type 0} (prefix_of : A → Cidr) (listed : List A) (up : IsListed prefix_of listed) where
  rises : (i j : ℕ) (d : A) → i < j → j < length listed → prefix_cmp (prefix_of (get_or listed i d)) (prefix_of (get_or listed j d)) ≡ Less
  rises i j d less within =
      let prefixes = map prefix_of listed in
      let long : length prefixes ≡ length listed = length-map listed prefix_of in
      let at_i : get_or prefixes i (prefix_of d) ≡ (prefix_of (get_or listed i d)) = get_or-map prefix_of listed i d (prefix_of d) (omega arith) in
      let at_j : get_or prefixes j (prefix_of d) ≡ (prefix_of (get_or listed j d)) = get_or-map prefix_of listed j d (prefix_of d) within in
      let both : prefix_cmp (get_or prefixes i (prefix_of d)) (get_or prefixes j (prefix_of d)) ≡ prefix_cmp (prefix_of (get_or listed i d)) (prefix_of (get_or listed j d)) = λ k. prefix_cmp (at_i k) (at_j k) in
      sym both ∙ Less-from_sorted prefix_cmp prefixes i j (prefix_of d) up less (omega arith)

  in_order : IsSortedBy (λ x y. is_lt (prefix_cmp (prefix_of x) (prefix_of y))) listed
  in_order k d low within =
      ap is_lt (prefix_cmp_total.antisymm (prefix_of (get_or listed (k + 1) d)) (prefix_of (get_or listed k d)) ∙ ap ordering_reverse (rises k (k + 1) d (omega arith) within))

  -- what a bisection finds
  pub bisected : (p : Cidr) (r : Result ℕ ℕ) → IsSearchInRange r (length listed) → IsBinarySearchResult (λ b. impl.cmp-value.it (prefix_of b) p) listed r
      → record { found : IfOk r (λ k. slice_get listed k ≡ listed_at prefix_of listed p); absent : IfErr r (λ k. None ≡ listed_at prefix_of listed p) }
  bisected p r within by_code = at r within (subst (λ (c : Cidr → Cidr → Ordering). IsBinarySearchResult (λ b. c (prefix_of b) p) listed r) code_cmp by_code)
    where
      at : (r : Result ℕ ℕ) → IsSearchInRange r (length listed) → IsBinarySearchResult (λ b. prefix_cmp (prefix_of b) p) listed r
          → record { found : IfOk r (λ k. slice_get listed k ≡ listed_at prefix_of listed p); absent : IfErr r (λ k. None ≡ listed_at prefix_of listed p) }
      at (Ok k) within equal = record {
        found = first_found prefix_of p listed k within
            (λ j d less. turned p (prefix_of (get_or listed j d)) Less (sym (ap (prefix_cmp (prefix_of (get_or listed j d))) (same_by_prefix_cmp (prefix_of (get_or listed k d)) p (equal d))) ∙ rises j k d less within))
            (λ d. turned p (prefix_of (get_or listed k d)) Equal (equal d));
        absent = tt;
      }
      at (Err k) within parted =
          let parts = parted (searchable_from_sorted prefix_cmp_total prefix_of listed p in_order) in
          record { found = tt; absent = none_found prefix_of p listed (λ j d less. by j d less (cases_lt j k) parts.0 parts.1) }
        where
          by : (j : ℕ) (d : A) → j < length listed → (j < k) ⊎ (k ≤ j) → ((j : ℕ) (d : A) → 0 ≤ j → j < k → prefix_cmp (prefix_of (get_or listed j d)) p ≡ Less)
              → ((j : ℕ) (d : A) → k ≤ j → j < length listed → prefix_cmp (prefix_of (get_or listed j d)) p ≡ Greater) → same_prefix p (prefix_of (get_or listed j d)) ≡ false
          by j d less (inl before) low high = turned p (prefix_of (get_or listed j d)) Less (low j d (omega arith) before)
          by j d less (inr behind) low high = turned p (prefix_of (get_or listed j d)) Greater (high j d behind less)
