-- Tests of addresses under a wildcard.
use Rattle.std.proofs.Common.{refl, ◌≡◌, ap, sym, ◌∙◌, ℕ, zero, suc, ◌+◌, ◌-◌, ◌<◌, Bool, true, false, not, ◌&&◌, ◌||◌, cond, ◌==◌, arith}
use Rattle.std.specs.Int.{bit_at}
use Rattle.std.specs.List.{list_all, range_with_len}
use Rattle.std.proofs.lemmas.Nat.Bits.{bit_at-lt}
use Rattle.rc_base.specs.Fields.{is_set}
use Rattle.rc_base.specs.Header.{bit}
use Rattle.rc_base.specs.declared.header.Header.{Header}
use Rattle.rc_filter.specs.Verdict.{is_same_bit, same_bits}
use Rattle.rc_trees.specs.Trees.{value}
use Rattle.rc_trees.specs.Fields.{masked}
use Rattle.rc_trees.proofs.FieldLaws.{Reads, fewer, value-with_bit}

and_swap : (a b : Bool) → (a && b) ≡ (b && a)
and_swap true true = refl
and_swap true false = refl
and_swap false true = refl
and_swap false false = refl

and_step : (a b c : Bool) → (a && (b && c)) ≡ ((a && b) && c)
and_step true b c = refl
and_step false b c = refl

all-range : (p : ℕ → Bool) (a n : ℕ) → list_all p (range_with_len a (suc n)) ≡ (list_all p (range_with_len a n) && p (a + n))
all-range p a zero = and_swap (p a) true ∙ ap p (let e : a ≡ a + zero = omega arith in e)
all-range p a (suc n) =
    ap (λ b. p a && b) (all-range p (a + 1) n)
    ∙ and_step (p a) (list_all p (range_with_len (a + 1) n)) (p ((a + 1) + n))
    ∙ ap (λ k. list_all p (range_with_len a (suc n)) && p k) (let e : (a + 1) + n ≡ a + suc n = omega arith in e)

-- of one bit more
same_bits-suc : (w n m k : ℕ) → same_bits (suc k) w n m ≡ (is_same_bit w n m k && same_bits k w n m)
unfolding same_bits
same_bits-suc w n m k = all-range (is_same_bit w n m) 0 k ∙ and_swap (list_all (is_same_bit w n m) (range_with_len 0 k)) (is_same_bit w n m (0 + k)) ∙ ap (λ i. is_same_bit w n m i && list_all (is_same_bit w n m) (range_with_len 0 k)) (let e : 0 + k ≡ k = omega arith in e)

module _ (h : Header) (last m : ℕ) where
  two_bits : (x y z : ℕ) → x < 2 → y < 2 → ((z == 1) || (x == y)) ≡ ((z == 1) || cond (y == 1) (x == 1) (not (x == 1)))
  two_bits zero zero z p q = refl
  two_bits zero (suc zero) z p q = refl
  two_bits (suc zero) zero z p q = refl
  two_bits (suc zero) (suc zero) z p q = refl
  two_bits (suc (suc x)) y z p q = absurd (omega arith)
  two_bits x (suc (suc y)) z p q = absurd (omega arith)

  pub value-masked : (count w n : ℕ) → Reads h last m count → value (masked last count w n) (bit h) ≡ same_bits count w n m
  unfolding masked same_bits
  value-masked zero w n reads = refl
  value-masked (suc k) w n reads =
      value-with_bit h last m (is_set w k) (is_set n k) (last - k) (masked last k w n)
      ∙ ap (λ b. (is_set w k || cond b (is_set n k) (not (is_set n k))) && value (masked last k w n) (bit h)) (reads k (omega arith))
      ∙ ap (λ b. b && value (masked last k w n) (bit h)) (sym (two_bits (bit_at n k) (bit_at m k) (bit_at w k) (bit_at-lt n k) (bit_at-lt m k)))
      ∙ ap (λ b. is_same_bit w n m k && b) (value-masked k w n (fewer h last m k reads))
      ∙ sym (same_bits-suc w n m k)
