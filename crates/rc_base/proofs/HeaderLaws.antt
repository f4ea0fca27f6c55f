-- A header from its bits, for whatever table of distinct fields.
use Rattle.std.proofs.Common.{◌≡◌, ◌∙◌, ℕ, zero, suc, ◌+◌, ◌-◌, ◌*◌, ◌^◌, ◌<◌, ◌≤◌, ◌⊎◌, inl, inr, ◌==◌, Bool, true, false, cond, List, [], ◌∷◌, refl, sym, ap, subst, arith}
use Rattle.std.specs.Int.{bit_at}
use Rattle.std.proofs.lemmas.Bool.{and_parts, cases_eq, cases_lt, le-ltb, lt-ltb}
use Rattle.std.proofs.lemmas.Nat.Bits.{bit_at_cat_high, bit_at_cat_low}
use Rattle.std.proofs.lemmas.Nat.{pow-add, pow_pos}
use Rattle.rc_base.specs.declared.header.Header.{Header}
use Rattle.rc_base.specs.declared.field.Field.{Field}
use Rattle.rc_base.specs.Fields.{fields, is_set, of, width, with, zeros}
use Rattle.rc_base.specs.Header.{HeadersAreBits, IsHeader, bit, bit_in, same_field, total}
use Rattle.rc_base.proofs.FieldLaws.{is_new, put-bit, put-other, put-small, zero-of}
use Rattle.rc_base.proofs.BitLaws.{apart, are_distinct, bits-of-others}

-- ---- a number from its bits

abbrev one_bit : Bool → ℕ
one_bit true = 1
one_bit false = 0

one-bit : (b : Bool) → is_set (one_bit b) 0 ≡ b
one-bit true = refl
one-bit false = refl

-- the number of so many bits, that of weight 2 ^ k the k-th
abbrev number : ℕ → (ℕ → Bool) → ℕ
number zero f = 0
number (suc k) f = one_bit (f k) * 2 ^ k + number k f

number-small : (n : ℕ) (f : ℕ → Bool) → number n f < 2 ^ n
number-small zero f = omega arith
number-small (suc k) f = by (f k) (number-small k f)
  where
    double : 2 ^ suc k ≡ 2 * 2 ^ k
    double = ap (λ j. 2 ^ j) (let e : suc k ≡ 1 + k = omega arith in e) ∙ pow-add 2 1 k

    by : (b : Bool) → number k f < 2 ^ k → one_bit b * 2 ^ k + number k f < 2 ^ suc k
    by true small = let e = double in omega arith
    by false small = let e = double in omega arith

number-bit : (n : ℕ) (f : ℕ → Bool) (i : ℕ) → i < n → is_set (number n f) i ≡ f i
number-bit zero f i less = absurd (omega arith)
number-bit (suc k) f i less = by (cases_eq i k) (λ lower. number-bit k f i lower)
  where
    below : (i ≡ k → ⊥) → i < k
    below other = omega arith

    by : (i ≡ k) ⊎ (i ≡ k → ⊥) → (i < k → is_set (number k f) i ≡ f i) → is_set (number (suc k) f) i ≡ f i
    by (inl same) later =
        ap (is_set (number (suc k) f)) same
        ∙ ap (λ n. n == 1) (bit_at_cat_high (one_bit (f k)) k (number k f) k (number-small k f) (omega arith))
        ∙ ap (λ n. bit_at (one_bit (f k)) n == 1) (let e : k - k ≡ 0 = omega arith in e)
        ∙ one-bit (f k)
        ∙ ap f (sym same)
    by (inr other) later = ap (λ n. n == 1) (bit_at_cat_low (one_bit (f k)) k (number k f) i (below other)) ∙ later (below other)

-- ---- a header from its bits

abbrev header_from : List Field → (ℕ → Bool) → Header → Header
header_from [] b h = h
header_from (f ∷ fs) b h = with f (number (width f) (λ i. b (width f - 1 - i))) (header_from fs (λ v. b (v + width f)) h)

bits-from : (fs : List Field) → are_distinct fs ≡ true → (b : ℕ → Bool) (h : Header) (v : ℕ) → v < total fs → bit_in fs (header_from fs b h) v ≡ b v
bits-from [] distinct b h v less = absurd (omega arith)
bits-from (f ∷ fs) distinct b h v less = by (cases_lt v (width f)) (λ there. bits-from fs (and_parts (is_new f fs) (are_distinct fs) distinct).1 (λ u. b (u + width f)) h (v - width f) there)
  where
    rest : Header
    rest = header_from fs (λ u. b (u + width f)) h

    by : (v < width f) ⊎ (width f ≤ v) → (v - width f < total fs → bit_in fs (header_from fs (λ u. b (u + width f)) h) (v - width f) ≡ b (v - width f + width f))
        → bit_in (f ∷ fs) (header_from (f ∷ fs) b h) v ≡ b v
    by (inl inside) later =
        ap (λ c. cond c (is_set (of f (header_from (f ∷ fs) b h)) (width f - 1 - v)) (bit_in fs (header_from (f ∷ fs) b h) (v - width f))) (lt-ltb v (width f) inside)
        ∙ put-bit f (number (width f) (λ i. b (width f - 1 - i))) (header_from fs (λ u. b (u + width f)) h) (width f - 1 - v) (omega arith)
        ∙ number-bit (width f) (λ i. b (width f - 1 - i)) (width f - 1 - v) (omega arith)
        ∙ ap b (let e : width f - 1 - (width f - 1 - v) ≡ v = omega arith in e)
    by (inr past) later =
        ap (λ c. cond c (is_set (of f (header_from (f ∷ fs) b h)) (width f - 1 - v)) (bit_in fs (header_from (f ∷ fs) b h) (v - width f))) (le-ltb v (width f) past)
        ∙ bits-of-others f (number (width f) (λ i. b (width f - 1 - i))) (header_from fs (λ u. b (u + width f)) h) fs (and_parts (is_new f fs) (are_distinct fs) distinct).0 (v - width f)
        ∙ later (omega arith)
        ∙ ap b (let e : v - width f + width f ≡ v = omega arith in e)

small-with : (f : Field) (n : ℕ) (h : Header) → n < 2 ^ width f → IsHeader h → IsHeader (with f n h)
small-with f n h less small g = by (same_field f g) refl
  where
    by : (b : Bool) → same_field f g ≡ b → of g (with f n h) < 2 ^ width g
    by true e = put-small f g n h e less
    by false e = subst (λ m. m < 2 ^ width g) (sym (put-other f g n h e)) (small g)

small-from : (fs : List Field) (b : ℕ → Bool) (h : Header) → IsHeader h → IsHeader (header_from fs b h)
small-from [] b h small = small
small-from (f ∷ fs) b h small = small-with f (number (width f) (λ i. b (width f - 1 - i))) (header_from fs (λ u. b (u + width f)) h) (number-small (width f) (λ i. b (width f - 1 - i))) (small-from fs (λ u. b (u + width f)) h small)

small-zeros : IsHeader zeros
small-zeros f = subst (λ n. n < 2 ^ width f) (sym (zero-of f)) (pow_pos (width f))

pub headers_are_bits : HeadersAreBits
unfolding bit
headers_are_bits b = record { header = header_from fields b zeros; fits = small-from fields b zeros small-zeros; same = bits-from fields apart b zeros }
