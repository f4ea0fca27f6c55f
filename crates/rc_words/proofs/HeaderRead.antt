-- A header is read where the number of each of its fields is.
use Rattle.std.proofs.Common.{ap, sym, subst, lit<, arith, ◌≡◌, ◌∙◌, ℕ, ◌*◌, ◌+◌, ◌^◌, ◌<◌, ◌≤◌, Bool, true, false, ◌&&◌, List, [], ◌∷◌, refl, Option, Some, None}
use Rattle.std.proofs.Math.Nat.{lt_of_le_of_lt}
use Rattle.std.proofs.lemmas.Bool.{leb-true}
use Rattle.std.proofs.lemmas.Nat.{pow_pos}
use Rattle.std.specs.List.{slice_split}
use Rattle.std.specs.Prelude.{option_and_then, nat_le, nat_lt, length, ◌==◌, if◌then◌else◌}
use Rattle.rc_base.proofs.FieldLaws.{put-other, put-small, zero-of}
use Rattle.rc_base.specs.Fields.{of, width, with, zeros}
use Rattle.rc_base.specs.Header.{IsHeader, same_field}
use Rattle.rc_base.specs.declared.field.Field.{Field}
use Rattle.rc_base.specs.declared.header.Header.{Header}
use Rattle.rc_openings.specs.Values.{address_of, address_of_octets, address_of_parts, at_most, digits_from, octet}
use Rattle.rc_words.specs.HeaderOptions.{with_numbers}
use Rattle.rc_words.proofs.Rules.{AllOf}

-- ---- fields one after another

put_fits : (f : Field) (n : ℕ) (h : Header) → IsHeader h → n < 2 ^ width f → IsHeader (with f n h)
put_fits f n h is small = λ g. go g (same_field f g) refl
  where
    go : (g : Field) (b : Bool) → same_field f g ≡ b → of g (with f n h) < 2 ^ width g
    go g true e = put-small f g n h e small
    go g false e = subst (λ (m : ℕ). m < 2 ^ width g) (sym (put-other f g n h e)) (is g)

pub zeros_fit : IsHeader zeros
zeros_fit f = subst (λ (n : ℕ). n < 2 ^ width f) (sym (zero-of f)) (pow_pos (width f))

-- the field has a number, which fits it
abbrev pub IsNumbered : (Field → Option ℕ) → Field → Type 0
IsNumbered number f = (n : ℕ) × (number f ≡ Some n) × (n < 2 ^ width f)

pub header_read : (number : Field → Option ℕ) (fs : List Field) (h : Header) → IsHeader h → AllOf (IsNumbered number) fs → (made : Header) × (with_numbers number fs h ≡ Some made) × IsHeader made
header_read number [] h is all = (h, refl, is)
header_read number (f ∷ fs) h is ((n, n_is, small), all) =
    let (made, made_is, fits) = header_read number fs (with f n h) (put_fits f n h is small) all in
    (made, ap (option_and_then (λ n. with_numbers number fs (with f n h))) n_is ∙ made_is, fits)

pub same_header : (number other : Field → Option ℕ) (fs : List Field) (h : Header) → AllOf (λ f. number f ≡ other f) fs → with_numbers number fs h ≡ with_numbers other fs h
same_header number other [] h all = refl
same_header number other (f ∷ fs) h (is, all) = ap (option_and_then (λ n. with_numbers number fs (with f n h))) is ∙ go (other f) (λ g. same_header number other fs g all)
  where
    go : (o : Option ℕ) → ((g : Header) → with_numbers number fs g ≡ with_numbers other fs g)
        → option_and_then (λ n. with_numbers number fs (with f n h)) o ≡ option_and_then (λ n. with_numbers other fs (with f n h)) o
    go None later = refl
    go (Some n) later = later (with f n h)

-- ---- an address fits 32 bits

most_of : (limit : ℕ) (o : Option ℕ) (n : ℕ) → at_most limit o ≡ Some n → n ≤ limit
most_of limit None n e = absurd (cc)
most_of limit (Some m) n e = go (nat_le m limit) refl e
  where
    go : (b : Bool) → nat_le m limit ≡ b → (if b then Some m else None) ≡ Some n → n ≤ limit
    go true is f = let same : m ≡ n = cc in subst (λ (k : ℕ). k ≤ limit) same (leb-true m limit is)
    go false is f = absurd (cc)

most_if : (b : Bool) (o : Option ℕ) (n : ℕ) → (if b then at_most 255 o else None) ≡ Some n → n ≤ 255
most_if true o n e = most_of 255 o n e
most_if false o n e = absurd (cc)

octet_most : (word : List ℕ) (n : ℕ) → octet word ≡ Some n → n ≤ 255
octet_most word n e = most_if (nat_lt 0 (length word) && nat_le (length word) 3) (digits_from 0 word) n e

-- what is known of an octet that is read
abbrev IsOctet : Option ℕ → Type 0
IsOctet o = (n : ℕ) → o ≡ Some n → n ≤ 255

four_most : (a b c d : Option ℕ) (n : ℕ) → IsOctet a → IsOctet b → IsOctet c → IsOctet d → address_of_octets a b c d ≡ Some n → n ≤ 4294967295
four_most (Some a) (Some b) (Some c) (Some d) n am bm cm dm e =
    let same : ((a * 256 + b) * 256 + c) * 256 + d ≡ n = cc in
    let a_most = am a refl in
    let b_most = bm b refl in
    let c_most = cm c refl in
    let d_most = dm d refl in
    omega arith
four_most None b c d n am bm cm dm e = absurd (cc)
four_most (Some a) None c d n am bm cm dm e = absurd (cc)
four_most (Some a) (Some b) None d n am bm cm dm e = absurd (cc)
four_most (Some a) (Some b) (Some c) None n am bm cm dm e = absurd (cc)

parts_most : (parts : List (List ℕ)) (n : ℕ) → address_of_parts parts ≡ Some n → n ≤ 4294967295
parts_most (a ∷ b ∷ c ∷ d ∷ []) n e = four_most (octet a) (octet b) (octet c) (octet d) n (octet_most a) (octet_most b) (octet_most c) (octet_most d) e
parts_most [] n e = absurd (cc)
parts_most (a ∷ []) n e = absurd (cc)
parts_most (a ∷ b ∷ []) n e = absurd (cc)
parts_most (a ∷ b ∷ c ∷ []) n e = absurd (cc)
parts_most (a ∷ b ∷ c ∷ d ∷ f ∷ rest) n e = absurd (cc)

pub address_fits : (text : List ℕ) (n : ℕ) → address_of text ≡ Some n → n < 2 ^ 32
address_fits text n e = lt_of_le_of_lt (parts_most (slice_split (λ b. b == 46) text) n e) (lit< tt)
