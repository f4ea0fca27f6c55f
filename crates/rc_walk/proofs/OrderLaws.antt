-- The order of choices, listed the last one first.
use Rattle.std.proofs.Common.{◌≡◌, ap, sym, ◌∙◌, subst, ℕ, ◌≤◌, ◌⊎◌, inl, inr, List, [], ◌∷◌, ◌++◌, length, arith}
use Rattle.rc_walk.specs.Search.{PrecedeBack, AreAtMost}
use Rattle.rc_walk.specs.ShortestWalks.{ComeBefore}

pub one_more : (cs : List ℕ) (d : ℕ) → PrecedeBack cs (d ∷ cs)
one_more [] d = tt
one_more (c ∷ cs) d = inl (one_more cs c)

pub before_trans : (xs ys zs : List ℕ) → PrecedeBack xs ys → PrecedeBack ys zs → PrecedeBack xs zs
before_trans [] [] zs h k = absurd h
before_trans [] (b ∷ ys) [] h k = absurd k
before_trans [] (b ∷ ys) (c ∷ zs) h k = tt
before_trans (a ∷ xs) [] zs h k = absurd h
before_trans (a ∷ xs) (b ∷ ys) [] h k = absurd k
before_trans (a ∷ xs) (b ∷ ys) (c ∷ zs) (inl h) (inl k) = inl (before_trans xs ys zs h k)
before_trans (a ∷ xs) (b ∷ ys) (c ∷ zs) (inl h) (inr k) = inl (subst (PrecedeBack xs) k.0 h)
before_trans (a ∷ xs) (b ∷ ys) (c ∷ zs) (inr h) (inl k) = inl (subst (λ x. PrecedeBack x zs) (sym h.0) k)
before_trans (a ∷ xs) (b ∷ ys) (c ∷ zs) (inr h) (inr k) = inr (h.0 ∙ k.0, (let x = h.1 in let y = k.1 in omega arith))

pub at_most_before : (xs ys zs : List ℕ) → AreAtMost xs ys → PrecedeBack ys zs → PrecedeBack xs zs
at_most_before xs ys zs (inl h) k = before_trans xs ys zs h k
at_most_before xs ys zs (inr e) k = subst (λ x. PrecedeBack x zs) (sym e) k

before_at_most : (xs ys zs : List ℕ) → PrecedeBack xs ys → AreAtMost ys zs → PrecedeBack xs zs
before_at_most xs ys zs h (inl k) = before_trans xs ys zs h k
before_at_most xs ys zs h (inr e) = subst (PrecedeBack xs) e h

pub at_most_trans : (xs ys zs : List ℕ) → AreAtMost xs ys → AreAtMost ys zs → AreAtMost xs zs
at_most_trans xs ys zs (inl h) k = inl (before_at_most xs ys zs h k)
at_most_trans xs ys zs (inr e) k = subst (λ x. AreAtMost x zs) (sym e) k

-- ---- choices joined

longer : (ys xs : List ℕ) (d : ℕ) → PrecedeBack xs (d ∷ (ys ++ xs))
longer [] xs d = one_more xs d
longer (y ∷ ys) xs d = before_trans xs (y ∷ (ys ++ xs)) (d ∷ y ∷ (ys ++ xs)) (longer ys xs y) (one_more (y ∷ (ys ++ xs)) d)

before_behind : (zs xs ys : List ℕ) → PrecedeBack xs ys → PrecedeBack (zs ++ xs) (zs ++ ys)
before_behind [] xs ys h = h
before_behind (z ∷ zs) xs ys h = inl (before_behind zs xs ys h)

joined_before : (xs ys us vs : List ℕ) → PrecedeBack xs ys → AreAtMost us vs → PrecedeBack (xs ++ us) (ys ++ vs)
joined_before [] [] us vs h low = absurd h
joined_before [] (y ∷ ys) us vs h low = at_most_before us vs (y ∷ (ys ++ vs)) low (longer ys vs y)
joined_before (x ∷ xs) [] us vs h low = absurd h
joined_before (x ∷ xs) (y ∷ ys) us vs (inl h) low = inl (joined_before xs ys us vs h low)
joined_before (x ∷ xs) (y ∷ ys) us vs (inr e) (inl before) = inl (subst (λ zs. PrecedeBack (xs ++ us) (zs ++ vs)) e.0 (before_behind xs us vs before))
joined_before (x ∷ xs) (y ∷ ys) us vs (inr e) (inr same) = inr ((λ i. e.0 i ++ same i), e.1)

-- of joined choices the first ones come first
pub joined_at_most : (xs ys us vs : List ℕ) → AreAtMost xs ys → AreAtMost us vs → AreAtMost (xs ++ us) (ys ++ vs)
joined_at_most xs ys us vs (inl h) low = inl (joined_before xs ys us vs h low)
joined_at_most xs ys us vs (inr e) (inl before) = inl (subst (λ zs. PrecedeBack (xs ++ us) (zs ++ vs)) e (before_behind xs us vs before))
joined_at_most xs ys us vs (inr e) (inr same) = inr (λ i. e i ++ same i)

-- choices that are others or come before them are no more than these
pub no_longer : (cs ds : List ℕ) → (cs ≡ ds) ⊎ ComeBefore cs ds → length cs ≤ length ds
no_longer cs ds (inl e) = let same : length cs ≡ length ds = ap length e in omega arith
no_longer cs ds (inr (inl less)) = omega arith
no_longer cs ds (inr (inr as_many)) = let same = as_many.0 in omega arith
