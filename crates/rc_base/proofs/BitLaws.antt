-- The bits of a header, for whatever table of distinct fields.
use Rattle.std.proofs.Common.{◌≡◌, ◌≢◌, ◌∙◌, ℕ, ◌+◌, ◌-◌, ◌^◌, ◌<◌, ◌≤◌, ◌⊎◌, inl, inr, ◌==◌, Bool, true, false, cond, ◌&&◌, not, max, List, [], ◌∷◌, nat_lt, refl, sym, ap, subst, arith}
use Rattle.std.specs.Prelude.{bit_or}
use Rattle.std.specs.Int.{bit_at}
use Rattle.std.proofs.lemmas.Bool.{and_parts, cases_lt, false≢true, le-ltb, lt-ltb}
use Rattle.std.proofs.lemmas.Nat.Bits.{bit_at_or, bit_at-pow_same, bit_at-pow_other, bit_at-lt, bit_at-zero}
use Rattle.rc_base.specs.declared.header.Header.{Header}
use Rattle.rc_base.specs.declared.field.Field.{Field}
use Rattle.rc_base.specs.Fields.{fields, is_set, of, width, with, zeros}
use Rattle.rc_base.specs.Header.{BitsAreSet, FieldsAreRead, bit, bit_count, bit_in, first_in, last_bit, same_field, set_bit, set_in, total}
use Rattle.rc_base.proofs.FieldLaws.{is_new, is_there, put-bit, put-other, same-is, zero-of}

-- ---- a bit of a number

same_one : (n k : ℕ) → is_set (bit_or n (2 ^ k)) k ≡ true
same_one n k =
    let a = bit_at_or n (2 ^ k) k in let b = bit_at-pow_same k in let c = bit_at-lt n k in
    ap (λ m. m == 1) (a ∙ ap (max (bit_at n k)) b ∙ most (bit_at n k) c)
  where
    most : (x : ℕ) → x < 2 → max x 1 ≡ 1
    most x lt = omega arith

other_one : (n k i : ℕ) → i ≢ k → is_set (bit_or n (2 ^ k)) i ≡ is_set n i
other_one n k i ne = ap (λ m. m == 1) (bit_at_or n (2 ^ k) i ∙ ap (max (bit_at n i)) (bit_at-pow_other k i ne) ∙ least (bit_at n i))
  where
    least : (x : ℕ) → max x 0 ≡ x
    least x = omega arith

-- ---- what a bit is, by the table

pub bit-by-fields : (h : Header) (v : ℕ) → bit_in fields h v ≡ bit h v
unfolding bit
bit-by-fields h v = refl

pub set-by-fields : (h : Header) (v : ℕ) → set_in fields h v ≡ set_bit h v
unfolding set_bit
set-by-fields h v = refl

-- ---- fields apart

abbrev pub are_distinct : List Field → Bool
are_distinct [] = true
are_distinct (f ∷ fs) = is_new f fs && are_distinct fs

pub not-true : (b : Bool) → not b ≡ true → b ≡ false
not-true true e = absurd (false≢true e)
not-true false e = refl

-- ---- bits of other fields

pub bits-of-others : (f : Field) (n : ℕ) (h : Header) (fs : List Field) → is_new f fs ≡ true → (v : ℕ) → bit_in fs (with f n h) v ≡ bit_in fs h v
bits-of-others f n h [] new v = refl
bits-of-others f n h (g ∷ gs) new v =
    let parts = and_parts (not (same_field f g)) (is_new f gs) new in
    λ i. cond (nat_lt v (width g)) (is_set (put-other f g n h (not-true (same_field f g) parts.0) i) (width g - 1 - v)) (bits-of-others f n h gs parts.1 (v - width g) i)

symmetric : (f g : Field) → same_field f g ≡ false → same_field g f ≡ false
symmetric f g e = grind (arith, e)

field-kept : (f : Field) (h : Header) (fs : List Field) → is_new f fs ≡ true → (v : ℕ) → of f (set_in fs h v) ≡ of f h
field-kept f h [] new v = refl
field-kept f h (g ∷ gs) new v = by (nat_lt v (width g)) (field-kept f h gs (and_parts (not (same_field f g)) (is_new f gs) new).1 (v - width g))
  where
    parts : (not (same_field f g) ≡ true) × (is_new f gs ≡ true)
    parts = and_parts (not (same_field f g)) (is_new f gs) new

    by : (b : Bool) → of f (set_in gs h (v - width g)) ≡ of f h → of f (cond b (with g (bit_or (of g h) (2 ^ (width g - 1 - v))) h) (set_in gs h (v - width g))) ≡ of f h
    by true rest = put-other g f (bit_or (of g h) (2 ^ (width g - 1 - v))) h (symmetric f g (not-true (same_field f g) parts.0))
    by false rest = rest

-- ---- a bit that is set

-- the header with a bit set, the field of it or a later one, and a bit of a header, likewise
abbrev made : Field → List Field → Header → ℕ → Bool → Header
made f fs h k b = cond b (with f (bit_or (of f h) (2 ^ (width f - 1 - k))) h) (set_in fs h (k - width f))

abbrev seen : Field → List Field → ℕ → Bool → Header → Bool
seen f fs i b m = cond b (is_set (of f m) (width f - 1 - i)) (bit_in fs m (i - width f))

now-in : (fs : List Field) → are_distinct fs ≡ true → (h : Header) (k : ℕ) → k < total fs → bit_in fs (set_in fs h k) k ≡ true
now-in [] apart h k less = absurd (omega arith)
now-in (f ∷ fs) apart h k less = by (rest (cases_lt k (width f)) (λ past. now-in fs (and_parts (is_new f fs) (are_distinct fs) apart).1 h (k - width f) (omega arith))) (cases_lt k (width f))
  where
    rest : (k < width f) ⊎ (width f ≤ k) → (width f ≤ k → bit_in fs (set_in fs h (k - width f)) (k - width f) ≡ true) → (bit_in fs (set_in fs h (k - width f)) (k - width f) ≡ true) ⊎ (k < width f)
    rest (inl inside) later = inr inside
    rest (inr past) later = inl (later past)

    by : (bit_in fs (set_in fs h (k - width f)) (k - width f) ≡ true) ⊎ (k < width f) → (k < width f) ⊎ (width f ≤ k) → seen f fs k (nat_lt k (width f)) (made f fs h k (nat_lt k (width f))) ≡ true
    by rest (inl inside) =
        ap (λ b. seen f fs k b (made f fs h k b)) (lt-ltb k (width f) inside)
        ∙ put-bit f (bit_or (of f h) (2 ^ (width f - 1 - k))) h (width f - 1 - k) (omega arith)
        ∙ same_one (of f h) (width f - 1 - k)
    by (inl rest) (inr past) = ap (λ b. seen f fs k b (made f fs h k b)) (le-ltb k (width f) past) ∙ rest
    by (inr inside) (inr past) = absurd (omega arith)

others-in : (fs : List Field) → are_distinct fs ≡ true → (h : Header) (k i : ℕ) → k ≢ i → bit_in fs (set_in fs h k) i ≡ bit_in fs h i
others-in [] apart h k i ne = refl
others-in (f ∷ fs) apart h k i ne = by (cases_lt k (width f)) (cases_lt i (width f)) (λ ne'. others-in fs (and_parts (is_new f fs) (are_distinct fs) apart).1 h (k - width f) (i - width f) ne')
  where
    new : is_new f fs ≡ true
    new = (and_parts (is_new f fs) (are_distinct fs) apart).0

    by : (k < width f) ⊎ (width f ≤ k) → (i < width f) ⊎ (width f ≤ i) → (k - width f ≢ i - width f → bit_in fs (set_in fs h (k - width f)) (i - width f) ≡ bit_in fs h (i - width f))
        → seen f fs i (nat_lt i (width f)) (made f fs h k (nat_lt k (width f))) ≡ seen f fs i (nat_lt i (width f)) h
    by (inl a) (inl b) rest =
        (λ j. seen f fs i (lt-ltb i (width f) b j) (made f fs h k (lt-ltb k (width f) a j)))
        ∙ put-bit f (bit_or (of f h) (2 ^ (width f - 1 - k))) h (width f - 1 - i) (omega arith)
        ∙ other_one (of f h) (width f - 1 - k) (width f - 1 - i) (omega arith)
        ∙ ap (λ c. seen f fs i c h) (sym (lt-ltb i (width f) b))
    by (inl a) (inr b) rest =
        (λ j. seen f fs i (le-ltb i (width f) b j) (made f fs h k (lt-ltb k (width f) a j)))
        ∙ bits-of-others f (bit_or (of f h) (2 ^ (width f - 1 - k))) h fs new (i - width f)
        ∙ ap (λ c. seen f fs i c h) (sym (le-ltb i (width f) b))
    by (inr a) (inl b) rest =
        (λ j. seen f fs i (lt-ltb i (width f) b j) (made f fs h k (le-ltb k (width f) a j)))
        ∙ ap (λ n. is_set n (width f - 1 - i)) (field-kept f h fs new (k - width f))
        ∙ ap (λ c. seen f fs i c h) (sym (lt-ltb i (width f) b))
    by (inr a) (inr b) rest =
        (λ j. seen f fs i (le-ltb i (width f) b j) (made f fs h k (le-ltb k (width f) a j)))
        ∙ rest (omega arith)
        ∙ ap (λ c. seen f fs i c h) (sym (le-ltb i (width f) b))

zero-in : (fs : List Field) (k : ℕ) → bit_in fs zeros k ≡ false
zero-in [] k = refl
zero-in (f ∷ fs) k = by (nat_lt k (width f)) (zero-in fs (k - width f))
  where
    by : (b : Bool) → bit_in fs zeros (k - width f) ≡ false → cond b (is_set (of f zeros) (width f - 1 - k)) (bit_in fs zeros (k - width f)) ≡ false
    by true rest = ap (λ n. is_set n (width f - 1 - k)) (zero-of f) ∙ ap (λ n. n == 1) (bit_at-zero (width f - 1 - k))
    by false rest = rest

pub apart : are_distinct fields ≡ true
apart = refl

pub now_set : (h : Header) (k : ℕ) → k < bit_count → bit (set_bit h k) k ≡ true
unfolding bit set_bit
now_set h k less = now-in fields apart h k less

pub not_set : (h : Header) (k i : ℕ) → k ≢ i → bit (set_bit h k) i ≡ bit h i
unfolding bit set_bit
not_set h k i ne = others-in fields apart h k i ne

pub zero_bit : (k : ℕ) → bit zeros k ≡ false
unfolding bit
zero_bit k = zero-in fields k

pub bits_are_set : BitsAreSet
bits_are_set = record { now = now_set; others = not_set; zero = zero_bit }

-- ---- a field by its bits

read-in : (fs : List Field) (f : Field) (h : Header) → is_new f fs ≡ false → (j : ℕ) → j < width f → bit_in fs h (first_in fs f + j) ≡ is_set (of f h) (width f - 1 - j)
read-in [] f h one j less = absurd (false≢true (sym one))
read-in (g ∷ gs) f h one j less = by (same_field g f) refl (λ there. read-in gs f h there j less)
  where
    here : (x : Field) → x ≡ f → bit_in (x ∷ gs) h (0 + j) ≡ is_set (of f h) (width f - 1 - j)
    here x e =
        let at : 0 + j ≡ j = omega arith in
        subst (λ (y : Field). bit_in (y ∷ gs) h (0 + j) ≡ is_set (of f h) (width f - 1 - j)) (sym e)
        (ap (bit_in (f ∷ gs) h) at ∙ ap (λ b. cond b (is_set (of f h) (width f - 1 - j)) (bit_in gs h (j - width f))) (lt-ltb j (width f) less))

    behind : same_field g f ≡ false → is_new f gs ≡ false
    behind e = ap (λ b. not b && is_new f gs) (sym (symmetric g f e)) ∙ one

    by : (b : Bool) → same_field g f ≡ b → (is_new f gs ≡ false → bit_in gs h (first_in gs f + j) ≡ is_set (of f h) (width f - 1 - j)) → bit_in (g ∷ gs) h (cond b 0 (width g + first_in gs f) + j) ≡ is_set (of f h) (width f - 1 - j)
    by true e rest = here g (same-is g f e)
    by false e rest =
        let v : ℕ = width g + first_in gs f + j in
        ap (λ b. cond b (is_set (of g h) (width g - 1 - v)) (bit_in gs h (v - width g))) (le-ltb v (width g) (omega arith))
        ∙ ap (bit_in gs h) (let at : v - width g ≡ first_in gs f + j = omega arith in at)
        ∙ rest (behind e)

pub fields_are_read : FieldsAreRead
unfolding bit
fields_are_read h f i less =
    ap (bit_in fields h) (let at : last_bit f - i ≡ first_in fields f + (width f - 1 - i) = omega arith in at)
    ∙ read-in fields f h (is_there f) (width f - 1 - i) (omega arith)
    ∙ ap (is_set (of f h)) (let at : width f - 1 - (width f - 1 - i) ≡ i = omega arith in at)
