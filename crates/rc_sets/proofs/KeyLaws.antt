-- Keys put into a list in order, where they may stand already.
use Rattle.std.proofs.Common.{◌≡◌, ap, ◌∙◌, ◌⊎◌, inl, inr, refl, List, [], ◌∷◌, Ordering, Less, Equal, Greater}
use Rattle.std.specs.BTreeSet.{insert_key}
use Rattle.std.specs.Cmp.{IsTotalOrder}
use Rattle.std.specs.List.{AllByRecursion, fold}
use Rattle.std.specs.Ordering.{match_ordering, ordering_reverse}

module _ {K : Type 0} (cmp : K → K → Ordering) (total : IsTotalOrder cmp) where
  -- a key equals one in a list, and is greater than those before it
  abbrev Stands : K → List K → Type 0
  Stands k [] = ⊥
  Stands k (x ∷ xs) = (cmp k x ≡ Equal) ⊎ ((cmp k x ≡ Greater) × Stands k xs)

  itself : (k : K) → cmp k k ≡ Equal
  itself k = by (cmp k k) (total.antisymm k k)
    where
      by : (o : Ordering) → o ≡ ordering_reverse o → o ≡ Equal
      by Less e = absurd (let f : Less ≡ Greater = e in cc)
      by Equal e = refl
      by Greater e = absurd (let f : Greater ≡ Less = e in cc)

  -- one that stands there changes nothing
  nothing_new : (k : K) (xs : List K) → Stands k xs → insert_key cmp xs k ≡ xs
  nothing_new k [] s = absurd s
  nothing_new k (x ∷ xs) (inl same) = ap (λ o. match_ordering o (k ∷ x ∷ xs) (x ∷ xs) (x ∷ insert_key cmp xs k)) same
  nothing_new k (x ∷ xs) (inr later) = ap (λ o. match_ordering o (k ∷ x ∷ xs) (x ∷ xs) (x ∷ insert_key cmp xs k)) later.0 ∙ ap (λ ys. x ∷ ys) (nothing_new k xs later.1)

  put_in : (k : K) (xs : List K) → Stands k (insert_key cmp xs k)
  put_in k [] = inl (itself k)
  put_in k (x ∷ xs) = by (cmp k x) refl (put_in k xs)
    where
      by : (o : Ordering) → cmp k x ≡ o → Stands k (insert_key cmp xs k) → Stands k (match_ordering o (k ∷ x ∷ xs) (x ∷ xs) (x ∷ insert_key cmp xs k))
      by Less e later = inl (itself k)
      by Equal e later = inl e
      by Greater e later = inr (e, later)

  -- what is put in before a key's place is less
  above : (j k x : K) → cmp j x ≡ Less → (cmp k x ≡ Equal) ⊎ (cmp k x ≡ Greater) → cmp k j ≡ Greater
  above j k x less (inl same) = total.congr k x j same ∙ total.antisymm x j ∙ ap ordering_reverse less
  above j k x less (inr more) = total.antisymm k j ∙ ap ordering_reverse (total.trans j x k less (total.antisymm x k ∙ ap ordering_reverse more))

  stays : (j k : K) (xs : List K) → Stands k xs → Stands k (insert_key cmp xs j)
  stays j k [] s = absurd s
  stays j k (x ∷ xs) s = by (cmp j x) refl s (stays j k xs)
    where
      by : (o : Ordering) → cmp j x ≡ o → Stands k (x ∷ xs) → (Stands k xs → Stands k (insert_key cmp xs j)) → Stands k (match_ordering o (j ∷ x ∷ xs) (x ∷ xs) (x ∷ insert_key cmp xs j))
      by Less e (inl same) next = inr (above j k x e (inl same), inl same)
      by Less e (inr later) next = inr (above j k x e (inr later.0), inr later)
      by Equal e s next = s
      by Greater e (inl same) next = inl same
      by Greater e (inr later) next = inr (later.0, next later.1)

  still : (k : K) (hs xs : List K) → Stands k xs → Stands k (fold (insert_key cmp) xs hs)
  still k [] xs s = s
  still k (h ∷ hs) xs s = still k hs (insert_key cmp xs h) (stays h k xs s)

  all_stand : (hs xs : List K) → AllByRecursion (λ k. Stands k (fold (insert_key cmp) xs hs)) hs
  all_stand [] xs = tt
  all_stand (h ∷ hs) xs = (still h hs (insert_key cmp xs h) (put_in h xs), all_stand hs (insert_key cmp xs h))

  put_again : (hs xs : List K) → AllByRecursion (λ k. Stands k xs) hs → fold (insert_key cmp) xs hs ≡ xs
  put_again [] xs s = refl
  put_again (h ∷ hs) xs s = ap (λ ys. fold (insert_key cmp) ys hs) (nothing_new h xs s.0) ∙ put_again hs xs s.1

  -- a list that is put in twice
  pub twice : (hs xs : List K) → fold (insert_key cmp) (fold (insert_key cmp) xs hs) hs ≡ fold (insert_key cmp) xs hs
  twice hs xs = put_again hs (fold (insert_key cmp) xs hs) (all_stand hs xs)
