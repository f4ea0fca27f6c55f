-- The first bits of a header and of an address as numbers.
use Rattle.std.proofs.Common.{◌≡◌, ℕ, zero, suc, ◌+◌, ◌-◌, ◌*◌, ◌/◌, ◌%◌, ◌^◌, ◌<◌, ◌≤◌, ◌==◌, Bool, true, false, cond, refl, sym, ap, subst, ◌∙◌, arith, zero-add}
use Rattle.std.proofs.Math.Nat.{div-div-eq-div-mul, pow-suc, suc-add}
use Rattle.rc_base.specs.Addr.{leading_bits}
use Rattle.std.specs.Prelude.{◌≢◌}
use Rattle.std.proofs.lemmas.Bool.{cond-false, cond-true, eq-eqb, ne_eqb}
use Rattle.rc_sets.specs.Marks.{address_bit, digit, lead}

digit_is : (n : ℕ) → n < 2 → digit (n == 1) ≡ n
digit_is zero lt = refl
digit_is (suc zero) lt = refl
digit_is (suc (suc n)) lt = absurd (omega arith)

halves : (a j : ℕ) → a / 2 ^ j ≡ 2 * (a / 2 ^ suc j) + a / 2 ^ j % 2
halves a j =
    let q : a / 2 ^ j / 2 ≡ a / (2 ^ j * 2) = div-div-eq-div-mul a (2 ^ j) 2 in
    let p : a / 2 ^ suc j ≡ a / (2 ^ j * 2) = ap (λ n. a / n) (pow-suc 2 j) in
    omega arith

-- one bit more of an address
pub leading_more : (a d : ℕ) → d < 32 → leading_bits (suc d) a ≡ 2 * leading_bits d a + digit (address_bit a d)
leading_more a d lt =
    let one : 32 - d ≡ suc (31 - d) = omega arith in
    let next : 32 - suc d ≡ 31 - d = omega arith in
    let h = halves a (31 - d) in
    let e : digit (address_bit a d) ≡ a / 2 ^ (31 - d) % 2 = digit_is (a / 2 ^ (31 - d) % 2) (omega arith) in
    let p : a / 2 ^ (32 - suc d) ≡ a / 2 ^ (31 - d) = ap (λ n. a / 2 ^ n) next in
    let q : a / 2 ^ (32 - d) ≡ a / 2 ^ suc (31 - d) = ap (λ n. a / 2 ^ n) one in
    omega arith

same_tens : (x y b c : ℕ) → b < 2 → c < 2 → 2 * x + b ≡ 2 * y + c → x ≡ y
same_tens x y b c p q e = omega arith

pub digit_small : (b : Bool) → digit b < 2
digit_small true = omega arith
digit_small false = omega arith

-- what agrees in so many first bits agrees in fewer
pub lead_front : (bits : ℕ → Bool) (a k n : ℕ) → n + k ≤ 32 → lead bits (n + k) ≡ leading_bits (n + k) a → lead bits k ≡ leading_bits k a
lead_front bits a k zero le e = (ap (lead bits) (sym (zero-add k))) ∙ e ∙ ap (λ m. leading_bits m a) (zero-add k)
lead_front bits a k (suc n) le e =
    let m : ℕ = n + k in
    let f : lead bits (suc m) ≡ leading_bits (suc m) a = subst (λ x. lead bits x ≡ leading_bits x a) (suc-add n k) e in
    let g = leading_more a m (omega arith) in
    lead_front bits a k n (omega arith) (same_tens (lead bits m) (leading_bits m a) (digit (bits m)) (digit (address_bit a m)) (digit_small (bits m)) (digit_small (address_bit a m)) (f ∙ g))

-- the first bits of two addresses
pub front : (a b k n : ℕ) → n + k ≤ 32 → leading_bits (n + k) b ≡ leading_bits (n + k) a → leading_bits k b ≡ leading_bits k a
front a b k zero le e = ap (λ m. leading_bits m b) (sym (zero-add k)) ∙ e ∙ ap (λ m. leading_bits m a) (zero-add k)
front a b k (suc n) le e =
    let m : ℕ = n + k in
    let f : leading_bits (suc m) b ≡ leading_bits (suc m) a = subst (λ x. leading_bits x b ≡ leading_bits x a) (suc-add n k) e in
    let g = leading_more a m (omega arith) in
    let h = leading_more b m (omega arith) in
    front a b k n (omega arith) (same_tens (leading_bits m b) (leading_bits m a) (digit (address_bit b m)) (digit (address_bit a m)) (digit_small (address_bit b m)) (digit_small (address_bit a m)) (sym h ∙ f ∙ g))

-- one bit more agrees, or doesn't
pub same_digit : (x y : Bool) → digit x ≡ digit y → x ≡ y
same_digit true true e = refl
same_digit true false e = absurd (omega arith)
same_digit false true e = absurd (omega arith)
same_digit false false e = refl

pub last_bit : (bits : ℕ → Bool) (a d : ℕ) → d < 32 → lead bits (suc d) ≡ leading_bits (suc d) a → bits d ≡ address_bit a d
last_bit bits a d lt e =
    let g = leading_more a d lt in
    let p = digit_small (bits d) in let q = digit_small (address_bit a d) in
    same_digit (bits d) (address_bit a d) (omega arith)

-- ---- one bit at a value

abbrev pub with_bit : (ℕ → Bool) → ℕ → Bool → ℕ → Bool
with_bit bits v x k = cond (k == v) x (bits k)

pub at_bit : (bits : ℕ → Bool) (v : ℕ) (x : Bool) → with_bit bits v x v ≡ x
at_bit bits v x = cond-true (v == v) x (bits v) (eq-eqb v v refl)

pub off_bit : (bits : ℕ → Bool) (v : ℕ) (x : Bool) (k : ℕ) → k ≢ v → with_bit bits v x k ≡ bits k
off_bit bits v x k other = cond-false (k == v) x (bits k) (ne_eqb k v other)

-- the first bits depend on these bits alone
pub same_lead : (b c : ℕ → Bool) (n : ℕ) → ((v : ℕ) → v < n → b v ≡ c v) → lead b n ≡ lead c n
same_lead b c zero same = refl
same_lead b c (suc n) same = λ i. 2 * same_lead b c n (λ v less. same v (omega arith)) i + digit (same n (omega arith) i)
