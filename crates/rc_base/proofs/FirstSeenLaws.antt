-- What `first_seen` makes of a list: it has the same elements.
use Rattle.std.proofs.Common.{refl, ◌≡◌, ap, sym, ◌∙◌, Bool, true, false, ◌||◌, if◌then◌else◌, List, [], ◌∷◌, ◌++◌}
use Rattle.std.specs.List.{list_any, fold}
use Rattle.std.proofs.Math.Bool.{or_assoc, or-false}
use Rattle.std.proofs.lemmas.Bool.{or_left, or_right}
use Rattle.std.proofs.lemmas.List.Folds.{list_any-append}
use Rattle.indexmap.specs.IndexSet.{insert_key}
use Rattle.rc_base.specs.Lists.{first_seen}

or_on : (a b c : Bool) → (c ≡ true → a ≡ true) → (a || (c || b)) ≡ (a || b)
or_on true b c h = refl
or_on false b true h = absurd (let e : false ≡ true = h refl in cc)
or_on false b false h = refl

module _ {K : Type 0} (eq : K → K → Bool) (same : (x y : K) → eq x y ≡ true → x ≡ y) (p : K → Bool) where
  -- a key that is equal to one of the list passes only where one of the list does
  any-seen : (k : K) (ks : List K) → list_any (eq k) ks ≡ true → p k ≡ true → list_any p ks ≡ true
  any-seen k [] seen passes = absurd (cc)
  any-seen k (x ∷ xs) seen passes = at (eq k x) refl (λ there. any-seen k xs there passes)
    where
      at : (b : Bool) → eq k x ≡ b → (list_any (eq k) xs ≡ true → list_any p xs ≡ true) → (p x || list_any p xs) ≡ true
      at true e later = or_left (p x) (list_any p xs) (ap p (sym (same k x e)) ∙ passes)
      at false e later = or_right (p x) (list_any p xs) (later (ap (λ b. b || list_any (eq k) xs) (sym e) ∙ seen))

  any-insert : (k : K) (ks rest : List K) → (list_any p (insert_key eq ks k) || list_any p rest) ≡ (list_any p ks || (p k || list_any p rest))
  any-insert k ks rest = at (list_any (eq k) ks) refl
    where
      at : (b : Bool) → list_any (eq k) ks ≡ b → (list_any p (if b then ks else ks ++ k ∷ []) || list_any p rest) ≡ (list_any p ks || (p k || list_any p rest))
      at true e = sym (or_on (list_any p ks) (list_any p rest) (p k) (any-seen k ks e))
      at false e =
          ap (λ b. b || list_any p rest) (list_any-append p ks (k ∷ []) ∙ ap (λ b. list_any p ks || b) (or-false (p k)))
          ∙ or_assoc (list_any p ks) (p k) (list_any p rest)

  any-fold : (xs ks : List K) → list_any p (fold (insert_key eq) ks xs) ≡ (list_any p ks || list_any p xs)
  any-fold [] ks = sym (or-false (list_any p ks))
  any-fold (x ∷ xs) ks = any-fold xs (insert_key eq ks x) ∙ any-insert x ks xs

  -- some element passes exactly if some element of the list without repeats does
  pub any-first_seen : (xs : List K) → list_any p (first_seen eq xs) ≡ list_any p xs
  any-first_seen xs = any-fold xs []
