-- Prefixes in order: what a bisection finds, and what two lists have in common.
use Rattle.std.proofs.Common.{refl, ◌≡◌, ◌⊎◌, ap, sym, ◌∙◌, subst, ℕ, ◌+◌, ◌<◌, ◌≤◌, false, List, [], length, get_or, inl, inr, Result, Ok, Err, arith}
use Rattle.std.specs.List.{list_any}
use Rattle.std.specs.List.Sorted.{IsStrictlySortedBy, IsSortedBy, IsSearchInRange, IsBinarySearchResult}
use Rattle.std.specs.Ordering.{is_eq, is_lt, ordering_reverse}
use Rattle.std.specs.Result.{is_ok}
use Rattle.std.specs.declared.cmp.Ordering.{Ordering}
use Rattle.std.specs.declared.cmp.Ordering.TheVariants.{Less, Equal, Greater}
use Rattle.std.proofs.lemmas.Bool.{cases_lt}
use Rattle.std.proofs.lemmas.List.Sorted.{searchable_from_sorted}
use Rattle.std.proofs.lemmas.Map.Keys.{Less-from_sorted}
use Rattle.rc_base.specs.Prefix.{Cidr, prefix_cmp, same_prefix}
use Rattle.rc_base.specs.contracts.prefix.PrefixOrd.TheImpl as impl
use Rattle.rc_base.proofs.GroupLaws.{code_cmp}
use Rattle.rc_base.proofs.OrderedLaws.{prefix_cmp_total}
use Rattle.rc_topology.specs.Ports.{some_is_in}
use Rattle.rc_topology.proofs.ListLaws.{any_any, any_at, any_each, none_within}

pub none_in_order : (prefixes : List Cidr) → prefixes ≡ [] → IsStrictlySortedBy prefix_cmp prefixes
unfolding IsStrictlySortedBy
none_in_order prefixes e = rw e tt

turned : (p q : Cidr) (o : Ordering) → prefix_cmp q p ≡ o → same_prefix p q ≡ is_eq (ordering_reverse o)
turned p q o e = ap is_eq (prefix_cmp_total.antisymm p q ∙ ap ordering_reverse e)

module _ (prefixes : List Cidr) (up : IsStrictlySortedBy prefix_cmp prefixes) where
  in_order : IsSortedBy (λ x y. is_lt (prefix_cmp x y)) prefixes
  in_order k d low within =
      let less : prefix_cmp (get_or prefixes k d) (get_or prefixes (k + 1) d) ≡ Less = Less-from_sorted prefix_cmp prefixes k (k + 1) d up (omega arith) within in
      ap is_lt (prefix_cmp_total.antisymm (get_or prefixes (k + 1) d) (get_or prefixes k d) ∙ ap ordering_reverse less)

  -- a bisection finds a prefix exactly where it is one of them
  pub bisected : (p : Cidr) (r : Result ℕ ℕ) → IsSearchInRange r (length prefixes) → IsBinarySearchResult (λ y. impl.cmp-value.it y p) prefixes r → is_ok r ≡ list_any (same_prefix p) prefixes
  bisected p r within by_code = at r within (subst (λ (c : Cidr → Cidr → Ordering). IsBinarySearchResult (λ y. c y p) prefixes r) code_cmp by_code)
    where
      at : (r : Result ℕ ℕ) → IsSearchInRange r (length prefixes) → IsBinarySearchResult (λ y. prefix_cmp y p) prefixes r → is_ok r ≡ list_any (same_prefix p) prefixes
      at (Ok index) within equal = sym (any_at (same_prefix p) prefixes index p within (turned p (get_or prefixes index p) Equal (equal p)))
      at (Err index) within parted =
          let parts = parted (searchable_from_sorted prefix_cmp_total (λ q. q) prefixes p in_order) in
          sym (none_within (same_prefix p) prefixes (λ k d less. by k d less (cases_lt k index) parts.0 parts.1))
        where
          by : (k : ℕ) (d : Cidr) → k < length prefixes → (k < index) ⊎ (index ≤ k) → ((k : ℕ) (d : Cidr) → 0 ≤ k → k < index → prefix_cmp (get_or prefixes k d) p ≡ Less)
              → ((k : ℕ) (d : Cidr) → index ≤ k → k < length prefixes → prefix_cmp (get_or prefixes k d) p ≡ Greater) → same_prefix p (get_or prefixes k d) ≡ false
          by k d less (inl before) low high = turned p (get_or prefixes k d) Less (low k d (omega arith) before)
          by k d less (inr behind) low high = turned p (get_or prefixes k d) Greater (high k d behind less)

is_eq-reversed : (o : Ordering) → is_eq (ordering_reverse o) ≡ is_eq o
is_eq-reversed Less = refl
is_eq-reversed Equal = refl
is_eq-reversed Greater = refl

pub same_prefix-turned : (p q : Cidr) → same_prefix p q ≡ same_prefix q p
same_prefix-turned p q = turned p q (prefix_cmp q p) refl ∙ is_eq-reversed (prefix_cmp q p)

-- some prefix is of both lists, whichever is named first
pub some_is_in_turned : (ps qs : List Cidr) → some_is_in qs ps ≡ some_is_in ps qs
some_is_in_turned ps qs =
    any_any same_prefix qs ps ∙ any_each (λ y. list_any (λ x. same_prefix x y) qs) (λ y. list_any (same_prefix y) qs) (λ y. any_each (λ x. same_prefix x y) (same_prefix y) (λ x. same_prefix-turned x y) qs) ps
