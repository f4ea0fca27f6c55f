-- The checkpoint of a round is a power of two that is below it and whose double is not.
use Rattle.std.proofs.Common.{refl, sym, ◌≡◌, ◌≢◌, inl, inr, ap, ◌∙◌, subst, ℕ, zero, suc, ◌+◌, ◌*◌, ◌^◌, ◌≤◌, ◌<◌, Bool, true, false, cond, nat_lt, arith, add-one}
use Rattle.std.proofs.lemmas.Bool.Decides.{Decides-ltb}
use Rattle.std.proofs.Math.Decide.{dec_lt}
use Rattle.std.proofs.Math.Nat.{pow-le-pow_right, pow-succ'}
use Rattle.rc_rounds.specs.Progress.{IsPowerBelow}
use Rattle.rc_rounds.specs.Rounds.{power_below, checkpoint}

not_less : (a b : ℕ) → b ≤ a → nat_lt a b ≡ false
not_less a b h = by (nat_lt a b) refl
  where
    by : (t : Bool) → nat_lt a b ≡ t → nat_lt a b ≡ false
    by false e = e
    by true e = let less : a < b = (Decides-ltb a b).0 e in absurd (omega arith)

is_less : (a b : ℕ) → a < b → nat_lt a b ≡ true
is_less a b h = (Decides-ltb a b).1 h

below_power : (n : ℕ) → n < 2 ^ n
below_power zero = omega arith
below_power (suc n) = omega (arith, below_power n, pow-succ' 2 n)

pub power_below-is : (n m k : ℕ) → 2 ^ n < k → k ≤ 2 ^ (n + 1) → n < m → power_below m k ≡ 2 ^ n
power_below-is n zero k low high less = absurd (let none : ⊥ = omega arith in none)
power_below-is n (suc j) k low high less = pick (dec_lt n j) (λ before. power_below-is n j k low high before)
  where
    pick : Dec (n < j) → (n < j → power_below j k ≡ 2 ^ n) → power_below (suc j) k ≡ 2 ^ n
    pick (yes before) rest =
        let order : n + 1 ≤ j = omega arith in
        let past : k ≤ 2 ^ j = omega (arith, pow-le-pow_right {n = 2} (omega arith) order) in
        ap (λ t. cond t (2 ^ j) (power_below j k)) (not_less (2 ^ j) k past) ∙ rest before
    pick (no not_before) rest =
        let here : n ≡ j = omega arith in
        subst (λ i. power_below (suc i) k ≡ 2 ^ n) here (ap (λ t. cond t (2 ^ n) (power_below n k)) (is_less (2 ^ n) k low))

-- the checkpoint is the power of two that is below k, and whose double is not
pub checkpoint-is : (n k : ℕ) → 2 ^ n < k → k ≤ 2 ^ (n + 1) → checkpoint k ≡ 2 ^ n
checkpoint-is n k low high = power_below-is n k k low high (omega (arith, below_power n))

-- ---- the checkpoint of the next round

pub first-power : IsPowerBelow 1 0
unfolding IsPowerBelow
first-power = inl (refl, refl)

pub power-is : (k c : ℕ) → IsPowerBelow k c → c ≡ checkpoint k
unfolding IsPowerBelow
power-is k c (inl h) = rw (h.0, h.1) refl
power-is k c (inr h) = h.1 ∙ sym (checkpoint-is h.0 k (omega (arith, h.1, h.2)) (omega (arith, h.1, h.3, pow-succ' 2 h.0, ap (λ x. 2 ^ x) (add-one h.0))))

-- after the first round it is 1
pub next-first : (k c : ℕ) → k ≡ 1 → IsPowerBelow (k + 1) k
unfolding IsPowerBelow
next-first k c e = inr (0, e, omega arith, omega arith)

-- a power of two is the next checkpoint
pub next-power : (k c : ℕ) → IsPowerBelow k c → k ≢ 1 → k ≡ 2 * c → IsPowerBelow (k + 1) k
unfolding IsPowerBelow
next-power k c (inl first) n e = absurd (n first.0)
next-power k c (inr h) n e = inr (h.0 + 1, e ∙ ap (λ x. 2 * x) h.1 ∙ sym (pow-succ' 2 h.0) ∙ ap (λ x. 2 ^ x) (sym (add-one h.0)), omega arith, omega arith)

-- else the checkpoint stays
pub next-stays : (k c : ℕ) → IsPowerBelow k c → k ≢ 1 → k ≢ 2 * c → IsPowerBelow (k + 1) c
unfolding IsPowerBelow
next-stays k c (inl first) n e = absurd (n first.0)
next-stays k c (inr h) n e = inr (h.0, h.1, omega arith, omega arith)
