-- Segments: what they hold, and when paths that begin with them are the same.
use Rattle.std.proofs.Common.{refl, ◌≡◌, ◌==◌, ap, sym, ◌∙◌, ℕ, zero, suc, ◌+◌, ◌*◌, Bool, true, false, ◌&&◌, ◌||◌, ◌≤◌, List, [], ◌∷◌, ◌++◌, length, length-append, nat_eq, arith}
use Rattle.std.specs.Cmp.Lexicographic.{pointwise, same_text}
use Rattle.std.specs.List.{list_any}
use Rattle.std.proofs.lemmas.Bool.{eqb-false}
use Rattle.std.proofs.lemmas.List.Folds.{list_any-append}

-- ---- is a number one of them

module _ (asn : ℕ) (own rest xs : List ℕ) (whole : xs ≡ own ++ rest) (all : Bool) (known : list_any (λ b. b == asn) xs ≡ all) where
  in_parts : (list_any (λ b. b == asn) own || list_any (λ b. b == asn) rest) ≡ all
  in_parts = sym (ap (list_any (λ b. b == asn)) whole ∙ list_any-append (λ b. b == asn) own rest) ∙ known

  pub held_here : list_any (λ b. b == asn) own ≡ true → true ≡ all
  held_here is = sym (ap (λ b. b || list_any (λ c. c == asn) rest) is) ∙ in_parts

  pub held_behind : list_any (λ b. b == asn) own ≡ false → list_any (λ b. b == asn) rest ≡ all
  held_behind none = sym (ap (λ b. b || list_any (λ c. c == asn) rest) none) ∙ in_parts

-- ---- paths that begin with segments

differ : (xs ys : List ℕ) → (xs ≡ ys → ⊥) → pointwise nat_eq xs ys ≡ false
differ xs ys apart = by (pointwise nat_eq xs ys) refl
  where
    by : (b : Bool) → pointwise nat_eq xs ys ≡ b → b ≡ false
    by true is = absurd (apart (same_text xs ys (sym is)))
    by false is = refl

pub lengths_differ : (xs ys : List ℕ) (n m : ℕ) → n ≡ length xs → m ≡ length ys → (n == m) ≡ false → false ≡ pointwise nat_eq xs ys
lengths_differ xs ys n m long as_long apart = sym (differ xs ys (λ e. eqb-false n m apart (long ∙ ap length e ∙ sym as_long)))

-- of fronts that are equally long
both : (a b c d : Bool) → b ≡ (c && d) → (a && b) ≡ ((a && c) && d)
both true b c d is = is
both false b c d is = refl

pub fronts : (us vs xs ys : List ℕ) → length us ≡ length vs → pointwise nat_eq (us ++ xs) (vs ++ ys) ≡ (pointwise nat_eq us vs && pointwise nat_eq xs ys)
fronts [] [] xs ys long = refl
fronts [] (v ∷ vs) xs ys long = absurd (let clash : zero ≡ suc (length vs) = long in cc clash)
fronts (u ∷ us) [] xs ys long = absurd (let clash : suc (length us) ≡ zero = long in cc clash)
fronts (u ∷ us) (v ∷ vs) xs ys long = both (nat_eq u v) _ _ _ (fronts us vs xs ys (let e : suc (length us) ≡ suc (length vs) = long in cc e))

-- lists that are cut behind up to 16 elements, and behind which stand segments of 16 each, are cut at the same place where they are equally long
pub same_cut : (n m k l : ℕ) → 1 ≤ n → n ≤ 16 → 1 ≤ m → m ≤ 16 → n + 16 * k ≡ m + 16 * l → n ≡ m
same_cut n m k l a b c d e = omega (arith, a, b, c, d, e)

module _ (us vs xs ys one other : List ℕ) (k l : ℕ) (whole : one ≡ us ++ xs) (all_of : other ≡ vs ++ ys) (long : length one ≡ length other) (some : 1 ≤ length us) (few : length us ≤ 16) (some_of : 1 ≤ length vs) (few_of : length vs ≤ 16) (full : length xs ≡ 16 * k) (full_of : length ys ≡ 16 * l) where
  in_all : length us + length xs ≡ length vs + length ys
  in_all = sym (length-append us xs) ∙ ap length (sym whole) ∙ long ∙ ap length all_of ∙ length-append vs ys

  pub as_long : length us ≡ length vs
  as_long = same_cut (length us) (length vs) k l some few some_of few_of ((λ i. length us + sym full i) ∙ in_all ∙ (λ i. length vs + full_of i))

  pub as_long_behind : length xs ≡ length ys
  as_long_behind = omega (arith, in_all, as_long)

  cut : pointwise nat_eq one other ≡ (pointwise nat_eq us vs && pointwise nat_eq xs ys)
  cut = (λ i. pointwise nat_eq (whole i) (all_of i)) ∙ fronts us vs xs ys as_long

  pub same_here : (all : Bool) → pointwise nat_eq one other ≡ all → pointwise nat_eq us vs ≡ true → pointwise nat_eq xs ys ≡ all
  same_here all known is = sym (cut ∙ ap (λ b. b && pointwise nat_eq xs ys) is) ∙ known

  pub others_here : (all : Bool) → pointwise nat_eq one other ≡ all → pointwise nat_eq us vs ≡ false → false ≡ all
  others_here all known is = sym (cut ∙ ap (λ b. b && pointwise nat_eq xs ys) is) ∙ known
