-- Addresses compared by a mask, and bit by bit.
use Rattle.std.proofs.Common.{◌≡◌, ℕ, zero, suc, ◌+◌, ◌-◌, ◌^◌, ◌%◌, ◌<◌, ◌==◌, ◌||◌, ◌⊎◌, Bool, true, false, min, length, get_or, refl, sym, ap, ◌∙◌, arith, inl, inr}
use Rattle.std.specs.Prelude.{bit_and, bit_xor}
use Rattle.std.specs.Int.{bit_at, w32}
use Rattle.std.specs.List.{list_all, range_with_len}
use Rattle.std.proofs.lemmas.Bool.{eqb-true, eq-eqb, cases_Bool}
use Rattle.std.proofs.lemmas.List.FromFn.{get_or-range_with_len, length-range_with_len}
use Rattle.std.proofs.lemmas.List.Sums.{AllPass-from_list_all, list_all-from_AllPass}
use Rattle.std.proofs.lemmas.Nat.{and_le_l, xor_lt}
use Rattle.std.proofs.lemmas.Nat.Bits.{bit_at_and, bit_at_xor, bit_at_not, bit_at-lt, bit_at-zero, same_from_bits_below}
use Rattle.rc_filter.specs.Verdict.{same_bits, is_same_bit}

-- two bits differ under a wildcard bit of 0 exactly where the mask leaves their difference
three_bits : (x y z : ℕ) → x < 2 → y < 2 → z < 2 → ((z == 1) || (x == y)) ≡ (min ((x + y) % 2) (1 - z) == 0)
three_bits zero zero zero p q r = refl
three_bits zero zero (suc zero) p q r = refl
three_bits zero (suc zero) zero p q r = refl
three_bits zero (suc zero) (suc zero) p q r = refl
three_bits (suc zero) zero zero p q r = refl
three_bits (suc zero) zero (suc zero) p q r = refl
three_bits (suc zero) (suc zero) zero p q r = refl
three_bits (suc zero) (suc zero) (suc zero) p q r = refl
three_bits (suc (suc x)) y z p q r = absurd (omega arith)
three_bits x (suc (suc y)) z p q r = absurd (omega arith)
three_bits x y (suc (suc z)) p q r = absurd (omega arith)

-- the bits in which two addresses differ where the wildcard has a 0
abbrev difference : ℕ → ℕ → ℕ → ℕ
difference w a b = bit_and (bit_xor a b) (2 ^ 32 - 1 - w)

same_bit : (w a b i : ℕ) → w < 2 ^ 32 → i < 32 → is_same_bit w a b i ≡ (bit_at (difference w a b) i == 0)
same_bit w a b i small within =
    let mask : bit_at (2 ^ 32 - 1 - w) i ≡ 1 - bit_at w i = bit_at_not w32 w i small within in
    let bit : bit_at (difference w a b) i ≡ min ((bit_at a i + bit_at b i) % 2) (1 - bit_at w i)
    = bit_at_and (bit_xor a b) (2 ^ 32 - 1 - w) i ∙ ap (λ n. min n (bit_at (2 ^ 32 - 1 - w) i)) (bit_at_xor a b i) ∙ ap (λ n. min ((bit_at a i + bit_at b i) % 2) n) mask in
    three_bits (bit_at a i) (bit_at b i) (bit_at w i) (bit_at-lt a i) (bit_at-lt b i) (bit_at-lt w i) ∙ ap (λ n. n == 0) (sym bit)

-- a test that holds of each number below n
all_below : (p : ℕ → Bool) (n : ℕ) → ((i : ℕ) → i < n → p i ≡ true) → list_all p (range_with_len 0 n) ≡ true
all_below p n each = list_all-from_AllPass p (range_with_len 0 n) (λ k d lt.
    let short : length (range_with_len 0 n) ≡ n = length-range_with_len 0 n in
    let within : k < n = omega arith in
    let is : get_or (range_with_len 0 n) k d ≡ 0 + k = get_or-range_with_len 0 n k d within in
    let same : get_or (range_with_len 0 n) k d ≡ k = omega arith in
    ap p same ∙ each k within)

each_below : (p : ℕ → Bool) (n i : ℕ) → list_all p (range_with_len 0 n) ≡ true → i < n → p i ≡ true
each_below p n i all within =
    let short : length (range_with_len 0 n) ≡ n = length-range_with_len 0 n in
    let is : get_or (range_with_len 0 n) i 0 ≡ 0 + i = get_or-range_with_len 0 n i 0 within in
    let same : get_or (range_with_len 0 n) i 0 ≡ i = omega arith in
    ap p (sym same) ∙ AllPass-from_list_all p (range_with_len 0 n) all i 0 (omega arith)

-- a test of an address by its mask is the test bit by bit
pub same_by_mask : (w a b : ℕ) → w < 2 ^ 32 → a < 2 ^ 32 → b < 2 ^ 32 → (bit_and (bit_xor a b) (2 ^ 32 - 1 - w) == 0) ≡ same_bits 32 w a b
unfolding same_bits
same_by_mask w a b small left right = by (cases_Bool (difference w a b == 0)) (cases_Bool (list_all (is_same_bit w a b) (range_with_len 0 32)))
  where
    below : difference w a b < 2 ^ 32
    below = (let low = and_le_l (bit_xor a b) (2 ^ 32 - 1 - w) in let less = xor_lt 32 a b left right in omega arith)

    by : ((difference w a b == 0) ≡ true) ⊎ ((difference w a b == 0) ≡ false) → (list_all (is_same_bit w a b) (range_with_len 0 32) ≡ true) ⊎ (list_all (is_same_bit w a b) (range_with_len 0 32) ≡ false)
        → (difference w a b == 0) ≡ list_all (is_same_bit w a b) (range_with_len 0 32)
    by (inl none) all =
        none ∙ sym (all_below (is_same_bit w a b) 32 (λ i within. same_bit w a b i small within ∙ ap (λ n. bit_at n i == 0) (eqb-true _ _ none) ∙ ap (λ n. n == 0) (bit_at-zero i)))
    by (inr some) (inr other) = some ∙ sym other
    by (inr some) (inl all) =
        let zero_bit : (i : ℕ) → i < 32 → bit_at (difference w a b) i ≡ bit_at 0 i
        = λ i within. eqb-true _ _ (sym (same_bit w a b i small within) ∙ each_below (is_same_bit w a b) 32 i all within) ∙ sym (bit_at-zero i) in
        let nothing : difference w a b ≡ 0 = same_from_bits_below 32 (difference w a b) 0 below (omega arith) zero_bit in
        eq-eqb _ _ nothing ∙ sym all
