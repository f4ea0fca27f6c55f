-- The trees of numbers, bit by bit.
use Rattle.std.proofs.Common.{refl, ◌≡◌, ap, sym, ◌∙◌, subst, ℕ, zero, suc, ◌+◌, ◌-◌, ◌*◌, ◌%◌, ◌^◌, ◌<◌, ◌≤◌, Bool, true, false, not, ◌&&◌, ◌||◌, cond, ◌==◌, nat_lt, nat_le, arith, inl, inr, ◌⊎◌}
use Rattle.std.specs.Int.{bit_at}
use Rattle.std.proofs.Math.Nat.{mod-eq_of_lt}
use Rattle.std.proofs.lemmas.Bool.{eq-eqb, ne_eqb, le-leb, le-ltb, lt-ltb, cases_lt}
use Rattle.std.proofs.lemmas.Bool.Decides.{nat_tests}
use Rattle.std.proofs.lemmas.Nat.{mod-pow-add, shr-shr, mod_below, shr_below, pow_pos}
use Rattle.std.proofs.lemmas.Nat.Bits.{bit_at-lt, bit_at-zero}
use Rattle.rc_base.specs.Addr.{leading_bits}
use Rattle.rc_base.specs.Fields.{is_set, of, width}
use Rattle.rc_base.specs.Header.{bit, last_bit}
use Rattle.rc_base.specs.Prefix.{Cidr, contains}
use Rattle.rc_base.specs.declared.field.Field.{Field}
use Rattle.rc_base.specs.declared.field.Field.TheVariants.{Dst}
use Rattle.rc_base.specs.declared.header.Header.{Header}
use Rattle.rc_base.proofs.BitLaws.{fields_are_read}
use Rattle.rc_trees.specs.Trees.{Tree, never, always, value}
use Rattle.rc_trees.specs.Recipes.{has}
use Rattle.rc_trees.proofs.TreeLaws.{value-joined}
use Rattle.rc_trees.specs.Fields.{with_bit, masked, exact, under_bit, under, below, at_most, chain}

-- ---- numbers by their bits

module _ (h : Header) (last m : ℕ) where
  -- the header has the number m of so many bits, whose last one stands at the variable
  abbrev pub Reads : ℕ → Type 0
  Reads count = (i : ℕ) → i < count → bit h (last - i) ≡ is_set m i

  pub fewer : (k : ℕ) → Reads (suc k) → Reads k
  fewer k reads = λ i less. reads i (let x : i < suc k = omega arith in x)

  pub value-with_bit : (skip one : Bool) (v : ℕ) (t : Tree) → value (with_bit skip one v t) (bit h) ≡ ((skip || cond (bit h v) one (not one)) && value t (bit h))
  value-with_bit true one v t = refl
  value-with_bit false true v t = at (bit h v)
    where
      at : (b : Bool) → cond b (value t (bit h)) false ≡ (cond b true false && value t (bit h))
      at true = refl
      at false = refl
  value-with_bit false false v t = at (bit h v)
    where
      at : (b : Bool) → cond b false (value t (bit h)) ≡ (cond b false true && value t (bit h))
      at true = refl
      at false = refl

  -- a number by its first bit and the others
  first_bit : (n k : ℕ) → n % 2 ^ (suc k) ≡ bit_at n k * 2 ^ k + n % 2 ^ k
  first_bit n k = ap (λ j. n % 2 ^ j) (let e : suc k ≡ 1 + k = omega arith in e) ∙ mod-pow-add n 1 k

  equal_by_bit : (b c P x y : ℕ) → b < 2 → c < 2 → x < P → y < P → (b * P + x == c * P + y) ≡ (cond (b == 1) (c == 1) (not (c == 1)) && (x == y))
  equal_by_bit zero zero P x y p q r s = ap (λ n. n == 0 * P + y) (let e : 0 * P + x ≡ x = omega arith in e) ∙ ap (λ n. x == n) (let e : 0 * P + y ≡ y = omega arith in e)
  equal_by_bit zero (suc zero) P x y p q r s = grind (arith, nat_tests)
  equal_by_bit (suc zero) zero P x y p q r s = grind (arith, nat_tests)
  equal_by_bit (suc zero) (suc zero) P x y p q r s = grind (arith, nat_tests)
  equal_by_bit (suc (suc b)) c P x y p q r s = absurd (omega arith)
  equal_by_bit b (suc (suc c)) P x y p q r s = absurd (omega arith)

  lower_by_bit : (b c P x y : ℕ) → b < 2 → c < 2 → x < P → y < P → nat_lt (b * P + x) (c * P + y) ≡ cond (c == 1) (cond (b == 1) (nat_lt x y) true) (cond (b == 1) false (nat_lt x y))
  lower_by_bit zero zero P x y p q r s = grind (arith, nat_tests)
  lower_by_bit zero (suc zero) P x y p q r s = grind (arith, nat_tests)
  lower_by_bit (suc zero) zero P x y p q r s = grind (arith, nat_tests)
  lower_by_bit (suc zero) (suc zero) P x y p q r s = grind (arith, nat_tests)
  lower_by_bit (suc (suc b)) c P x y p q r s = absurd (omega arith)
  lower_by_bit b (suc (suc c)) P x y p q r s = absurd (omega arith)

  value-bits : (count n : ℕ) → Reads count → value (masked last count 0 n) (bit h) ≡ (m % 2 ^ count == n % 2 ^ count)
  unfolding masked
  value-bits zero n reads =
      let a : m % 1 < 1 = mod_below m 1 (omega arith) in
      let b : n % 1 < 1 = mod_below n 1 (omega arith) in
      sym (eq-eqb (m % 1) (n % 1) (omega arith))
  value-bits (suc k) n reads =
      value-with_bit (is_set 0 k) (is_set n k) (last - k) (masked last k 0 n)
      ∙ ap (λ b. ((b == 1) || cond (bit h (last - k)) (is_set n k) (not (is_set n k))) && value (masked last k 0 n) (bit h)) (bit_at-zero k)
      ∙ (λ i. cond (reads k (let x : k < suc k = omega arith in x) i) (is_set n k) (not (is_set n k)) && value-bits k n (fewer k reads) i)
      ∙ sym (equal_by_bit (bit_at m k) (bit_at n k) (2 ^ k) (m % 2 ^ k) (n % 2 ^ k) (bit_at-lt m k) (bit_at-lt n k) (mod_below m (2 ^ k) (pow_pos k)) (mod_below n (2 ^ k) (pow_pos k)))
      ∙ (λ i. sym (first_bit m k) i == sym (first_bit n k) i)

  value-under_bit : (one : Bool) (v : ℕ) (t : Tree) → value (under_bit one v t) (bit h) ≡ cond one (cond (bit h v) (value t (bit h)) true) (cond (bit h v) false (value t (bit h)))
  value-under_bit true v t = value-joined (bit h) v always t
  value-under_bit false v t = value-joined (bit h) v t never

  -- lower, or equal where this holds
  abbrev lower_or : Bool → ℕ → ℕ → Bool
  lower_or equal a b = nat_lt a b || ((a == b) && equal)

  lower_or_by_bit : (e : Bool) (b c : Bool) (less same : Bool) → cond c (cond b (less || (same && e)) true) (cond b false (less || (same && e))) ≡ (cond c (cond b less true) (cond b false less) || ((cond b c (not c) && same) && e))
  lower_or_by_bit e true true less same = refl
  lower_or_by_bit e true false less same = refl
  lower_or_by_bit e false true less same = refl
  lower_or_by_bit e false false less same = refl

  value-under : (count n : ℕ) (equal : Tree) → Reads count → value (under last count n equal) (bit h) ≡ lower_or (value equal (bit h)) (m % 2 ^ count) (n % 2 ^ count)
  unfolding under
  value-under zero n equal reads =
      let a : m % 1 < 1 = mod_below m 1 (omega arith) in
      let b : n % 1 < 1 = mod_below n 1 (omega arith) in
      (λ i. sym (le-ltb (m % 1) (n % 1) (omega arith)) i || (sym (eq-eqb (m % 1) (n % 1) (omega arith)) i && value equal (bit h)))
  value-under (suc k) n equal reads =
      value-under_bit (is_set n k) (last - k) (under last k n equal)
      ∙ (λ i. cond (is_set n k) (cond (reads k (let x : k < suc k = omega arith in x) i) (value-under k n equal (fewer k reads) i) true) (cond (reads k (let x : k < suc k = omega arith in x) i) false (value-under k n equal (fewer k reads) i)))
      ∙ lower_or_by_bit (value equal (bit h)) (is_set m k) (is_set n k) (nat_lt (m % 2 ^ k) (n % 2 ^ k)) (m % 2 ^ k == n % 2 ^ k)
      ∙ (λ i. sym (lower_by_bit (bit_at m k) (bit_at n k) (2 ^ k) (m % 2 ^ k) (n % 2 ^ k) (bit_at-lt m k) (bit_at-lt n k) (mod_below m (2 ^ k) (pow_pos k)) (mod_below n (2 ^ k) (pow_pos k))) i
      || (sym (equal_by_bit (bit_at m k) (bit_at n k) (2 ^ k) (m % 2 ^ k) (n % 2 ^ k) (bit_at-lt m k) (bit_at-lt n k) (mod_below m (2 ^ k) (pow_pos k)) (mod_below n (2 ^ k) (pow_pos k))) i && value equal (bit h)))
      ∙ (λ i. lower_or (value equal (bit h)) (sym (first_bit m k) i) (sym (first_bit n k) i))

  -- ---- a number that fits its bits

  module _ (count : ℕ) (reads : Reads count) (fits : m < 2 ^ count) where
    pub value-exact : (n : ℕ) → value (exact last count n) (bit h) ≡ (m == n)
    value-exact n = by (cases_lt n (2 ^ count))
      where
        by : (n < 2 ^ count) ⊎ (2 ^ count ≤ n) → value (exact last count n) (bit h) ≡ (m == n)
        by (inl less) =
            ap (λ b. value (cond b (masked last count 0 n) never) (bit h)) (lt-ltb n (2 ^ count) less)
            ∙ value-bits count n reads
            ∙ (λ i. mod-eq_of_lt fits i == mod-eq_of_lt less i)
        by (inr past) =
            ap (λ b. value (cond b (masked last count 0 n) never) (bit h)) (le-ltb n (2 ^ count) past)
            ∙ sym (ne_eqb m n (λ same. (let x : ⊥ = omega arith in x)))

    under_value : (n : ℕ) (equal : Tree) → n < 2 ^ count → value (under last count n equal) (bit h) ≡ lower_or (value equal (bit h)) m n
    under_value n equal less = value-under count n equal reads ∙ (λ i. lower_or (value equal (bit h)) (mod-eq_of_lt fits i) (mod-eq_of_lt less i))

    lower : (a b : ℕ) → lower_or false a b ≡ nat_lt a b
    lower a b = grind (arith, nat_tests)

    not_higher : (a b : ℕ) → lower_or true a b ≡ nat_le a b
    not_higher a b = grind (arith, nat_tests)

    pub value-below : (n : ℕ) → value (below last count n) (bit h) ≡ nat_lt m n
    value-below n = by (cases_lt n (2 ^ count))
      where
        by : (n < 2 ^ count) ⊎ (2 ^ count ≤ n) → value (below last count n) (bit h) ≡ nat_lt m n
        by (inl less) = ap (λ b. value (cond b (under last count n never) always) (bit h)) (lt-ltb n (2 ^ count) less) ∙ under_value n never less ∙ lower m n
        by (inr past) = ap (λ b. value (cond b (under last count n never) always) (bit h)) (le-ltb n (2 ^ count) past) ∙ sym (lt-ltb m n (omega arith))

    pub value-at_most : (n : ℕ) → value (at_most last count n) (bit h) ≡ nat_le m n
    value-at_most n = by (cases_lt n (2 ^ count))
      where
        by : (n < 2 ^ count) ⊎ (2 ^ count ≤ n) → value (at_most last count n) (bit h) ≡ nat_le m n
        by (inl less) = ap (λ b. value (cond b (under last count n always) always) (bit h)) (lt-ltb n (2 ^ count) less) ∙ under_value n always less ∙ not_higher m n
        by (inr past) = ap (λ b. value (cond b (under last count n always) always) (bit h)) (le-ltb n (2 ^ count) past) ∙ sym (le-leb m n (omega arith))

-- ---- a header's fields

pub reads : (h : Header) (f : Field) → Reads h (last_bit f) (of f h) (width f)
reads h f = fields_are_read h f

-- ---- prefixes

module _ (h : Header) (small : h.dst < 2 ^ 32) (p : Cidr) (short : p.len ≤ 32) where
  leading_small : leading_bits p.len h.dst < 2 ^ p.len
  leading_small = shr_below h.dst p.len (32 - p.len) (subst (λ n. h.dst < 2 ^ n) (let e : 32 ≡ p.len + (32 - p.len) = omega arith in e) small)

  reads_front : Reads h (p.len - 1) (leading_bits p.len h.dst) p.len
  reads_front i less =
      ap (bit h) (let e : p.len - 1 - i ≡ last_bit Dst - (32 - p.len + i) = omega arith in e)
      ∙ reads h Dst (32 - p.len + i) (omega arith)
      ∙ ap (λ n. n % 2 == 1) (sym (shr-shr h.dst (32 - p.len) i))

  -- the chain of a prefix holds the headers whose destination the prefix holds
  pub has-chain : has (chain p) h ≡ contains p h.dst
  has-chain = value-exact h (p.len - 1) (leading_bits p.len h.dst) p.len reads_front leading_small (leading_bits p.len p.network)
