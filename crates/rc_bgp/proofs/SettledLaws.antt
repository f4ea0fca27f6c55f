-- Prefixes that are sorted, and then left once each, are what stands in order.
use Rattle.std.proofs.Common.{refl, ◌≡◌, ap, sym, ◌∙◌, Bool, true, false, cond, ◌&&◌, ◌||◌, eqb, List, [], ◌∷◌}
use Rattle.std.specs.List.{list_any, dedup, dedup_from}
use Rattle.std.specs.List.Sorted.{IsPermutation, IsSorted}
use Rattle.std.proofs.lemmas.List.Kept.{IsStrictlySortedBy-dedup}
use Rattle.std.proofs.lemmas.List.Sorted.{list_any-IsPermutation}
use Rattle.std.proofs.lemmas.Map.Text.{is_eq-slice_cmp}
use Rattle.rc_base.specs.Lists.{in_order}
use Rattle.rc_base.specs.Prefix.{Cidr, prefix_cmp, prefix_key, same_prefix}
use Rattle.rc_base.specs.contracts.prefix.PrefixPartialEq.TheImpl as eq_impl
use Rattle.rc_base.proofs.CommunityLaws.{same_elements}
use Rattle.rc_base.proofs.OrderedLaws.{any-in_order, in_order-sorted, prefix_cmp_total, same_by_prefix_cmp}
use Rattle.rc_bgp.proofs.PrefixLaws.{same_is}

again : (a b : Bool) → (a || b) ≡ (a || (a || b))
again true b = refl
again false b = refl

any_dedup_from : (p : Cidr → Bool) (k : Cidr) (xs : List Cidr) → list_any p (dedup_from same_prefix k xs) ≡ (p k || list_any p xs)
any_dedup_from p k [] = refl
any_dedup_from p k (x ∷ xs) = by (same_prefix x k) refl (any_dedup_from p k xs) (any_dedup_from p x xs)
  where
    by : (b : Bool) → same_prefix x k ≡ b → list_any p (dedup_from same_prefix k xs) ≡ (p k || list_any p xs) → list_any p (dedup_from same_prefix x xs) ≡ (p x || list_any p xs)
        → list_any p (cond b (dedup_from same_prefix k xs) (k ∷ dedup_from same_prefix x xs)) ≡ (p k || (p x || list_any p xs))
    by true e as_last as_next = as_last ∙ again (p k) (list_any p xs) ∙ ap (λ n. p k || (p n || list_any p xs)) (sym (same_is x k e))
    by false e as_last as_next = ap (λ b. p k || b) as_next

any_dedup : (p : Cidr → Bool) (xs : List Cidr) → list_any p (dedup same_prefix xs) ≡ list_any p xs
any_dedup p [] = refl
any_dedup p (x ∷ xs) = any_dedup_from p x xs

-- what `==` of prefixes says
by_key : (p q : Cidr) → eq_impl.eq-value.it p q ≡ same_prefix p q
by_key p q = both (eqb p.network q.network) (eqb p.len q.len) ∙ sym (is_eq-slice_cmp (prefix_key p) (prefix_key q))
  where
    both : (a b : Bool) → (a && b) ≡ (a && (b && true))
    both true true = refl
    both true false = refl
    both false b = refl

pub code_eq : eq_impl.eq-value.it ≡ same_prefix
code_eq i p q = by_key p q i

pub settled : (xs ys zs : List Cidr) → IsPermutation xs ys → IsSorted prefix_cmp ys → zs ≡ dedup same_prefix ys → zs ≡ in_order prefix_cmp xs
settled xs ys zs moved up once =
    once
    ∙ same_elements prefix_cmp prefix_cmp_total same_by_prefix_cmp (dedup same_prefix ys) (in_order prefix_cmp xs) (IsStrictlySortedBy-dedup prefix_cmp_total (λ x y. refl) ys up) (in_order-sorted prefix_cmp prefix_cmp_total xs)
    (λ p. any_dedup p ys ∙ sym (list_any-IsPermutation p xs ys moved) ∙ sym (any-in_order prefix_cmp same_by_prefix_cmp p xs))
