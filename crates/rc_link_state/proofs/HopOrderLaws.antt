-- Hops in their order.
use Rattle.std.proofs.Common.{refl, ◌≡◌, ap, sym, ◌∙◌, true, List, [], ◌∷◌, ◌++◌, fold, append_assoc}
use Rattle.std.specs.BTreeSet.{insert_key}
use Rattle.std.specs.Cmp.{IsTotalOrder}
use Rattle.std.specs.List.{AllByRecursion}
use Rattle.std.specs.List.Sorted.{IsStrictlySortedBy}
use Rattle.std.specs.Ordering.{is_gt, match_ordering, ordering_reverse}
use Rattle.std.specs.declared.cmp.Ordering.{Ordering}
use Rattle.std.specs.declared.cmp.Ordering.TheVariants.{Less, Equal, Greater}
use Rattle.std.proofs.lemmas.List.{append-nil}
use Rattle.rc_base.specs.Lists.{in_order}
use Rattle.rc_route.specs.Hops.{hop_cmp}
use Rattle.rc_route.specs.declared.route.Hop.{Hop}
use Rattle.rc_route.proofs.OrderLaws.{hop_cmp_total}
use Rattle.rc_link_state.specs.HopOrder.{are_few_in_order}

-- ---- a list in order stays as it is

module _ {K : Type 0} (R : K → K → Ordering) (order : IsTotalOrder R) where
  put_last : (k : K) (xs : List K) → AllByRecursion (λ x. R x k ≡ Less) xs → insert_key R xs k ≡ xs ++ k ∷ []
  put_last k [] before = refl
  put_last k (x ∷ xs) before =
      let after : R k x ≡ Greater = order.antisymm k x ∙ ap ordering_reverse before.0 in
      ap (λ o. match_ordering o (k ∷ x ∷ xs) (x ∷ xs) (x ∷ insert_key R xs k)) after ∙ ap (λ ys. x ∷ ys) (put_last k xs before.1)

  one_before_more : (k y : K) (xs : List K) → AllByRecursion (λ x. R x y ≡ Less) xs → R k y ≡ Less → AllByRecursion (λ x. R x y ≡ Less) (xs ++ k ∷ [])
  one_before_more k y [] before last = (last, tt)
  one_before_more k y (x ∷ xs) before last = (before.0, one_before_more k y xs before.1 last)

  all_before_more : (k : K) (xs ys : List K) → AllByRecursion (λ y. AllByRecursion (λ x. R x y ≡ Less) xs) ys → AllByRecursion (λ y. R k y ≡ Less) ys
      → AllByRecursion (λ y. AllByRecursion (λ x. R x y ≡ Less) (xs ++ k ∷ [])) ys
  all_before_more k xs [] before rise = tt
  all_before_more k xs (y ∷ ys) before rise = (one_before_more k y xs before.0 rise.0, all_before_more k xs ys before.1 rise.1)

  put_behind : (xs ys : List K) → IsStrictlySortedBy R ys → AllByRecursion (λ y. AllByRecursion (λ x. R x y ≡ Less) xs) ys → fold (insert_key R) xs ys ≡ xs ++ ys
  unfolding IsStrictlySortedBy
  put_behind xs [] rise before = sym (append-nil xs)
  put_behind xs (y ∷ ys) rise before =
      ap (λ zs. fold (insert_key R) zs ys) (put_last y xs before.0) ∙ put_behind (xs ++ y ∷ []) ys rise.1 (all_before_more y xs ys before.1 rise.0) ∙ append_assoc xs (y ∷ []) ys

  none_before : (ys : List K) → AllByRecursion (λ y. AllByRecursion (λ x. R x y ≡ Less) []) ys
  none_before [] = tt
  none_before (y ∷ ys) = (tt, none_before ys)

  stays : (xs : List K) → IsStrictlySortedBy R xs → in_order R xs ≡ xs
  stays xs rise = put_behind [] xs rise (none_before xs)

pub hops_stay : (hops : List Hop) → IsStrictlySortedBy hop_cmp hops → in_order hop_cmp hops ≡ hops
hops_stay = stays hop_cmp hop_cmp_total

pub none_rise : IsStrictlySortedBy hop_cmp []
unfolding IsStrictlySortedBy
none_rise = tt

-- ---- few in order

pub few_stay : (hops : List Hop) → are_few_in_order hops ≡ true → hops ≡ in_order hop_cmp hops
few_stay [] told = refl
few_stay (h ∷ []) told = refl
few_stay (h ∷ k ∷ []) told = by (hop_cmp k h) told
  where
    by : (o : Ordering) → is_gt o ≡ true → h ∷ k ∷ [] ≡ match_ordering o (k ∷ h ∷ []) (h ∷ []) (h ∷ k ∷ [])
    by Less is = absurd (cc is)
    by Equal is = absurd (cc is)
    by Greater is = refl
few_stay (h ∷ k ∷ l ∷ hops) told = absurd (cc told)
