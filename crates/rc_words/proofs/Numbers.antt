-- Numbers as the words write them.
use Rattle.std.proofs.Common.{arith, refl, sym, ◌≡◌, ◌≢◌, ◌∙◌, ap, ℕ, ◌<◌, ◌≤◌, ◌^◌, ◌&&◌, Bool, true, false, List, [], ◌∷◌, length, Option, Some, None}
use Rattle.std.proofs.Math.Nat.{lt_of_le_of_lt}
use Rattle.std.proofs.lemmas.Bool.{le-leb, lt-ltb, ltb-true}
use Rattle.std.proofs.lemmas.Str.Parse.{digit_from_value, numerals_by_value, tells_all_ascii_digits, without_leading_plus_none}
use Rattle.std.specs.Prelude.{Result, Ok, Err, nat_lt, option_and_then}
use Rattle.std.specs.List.{list_all}
use Rattle.std.specs.Char.{digit_value}
use Rattle.std.specs.Str.{all_ascii_digits}
use Rattle.std.specs.Str.Parse.{AllDigits, IsNumeral, ParsesUnsigned, digits_value, without_leading_plus}
use Rattle.clap.specs.Matches.{ReadsOne}
use Rattle.clap.specs.ValueTests.{accepts, is_numeral}
use Rattle.clap.specs.Walk.{Text}
use Rattle.clap.specs.declared.builder.ValueParser.TheVariants as vp
use Rattle.clap.proofs.ValueTestLemmas.{accepts-Accepts, Accepts-accepts}
use Rattle.clap.proofs.WalkLemmas.{both}
use Rattle.rc_openings.specs.Values.{at_most}
use Rattle.rc_words.specs.Request.{number_read}

digits_pass : (ds : List ℕ) → AllDigits 10 ds → list_all (λ d. nat_lt (digit_value d) 10) ds ≡ true
digits_pass [] h = refl
digits_pass (d ∷ ds) h = rw (lt-ltb (digit_value d) 10 h.0) (digits_pass ds h.1)

digits_from : (ds : List ℕ) → list_all (λ d. nat_lt (digit_value d) 10) ds ≡ true → AllDigits 10 ds
digits_from [] e = tt
digits_from (d ∷ ds) e =
    let parts = both _ _ e in
    (ltb-true _ _ parts.0, digits_from ds parts.1)

-- a numeral that fits is read
numeral_read : (bits : ℕ) (text : Text) → IsNumeral 10 (without_leading_plus text) → digits_value 10 (without_leading_plus text) < 2 ^ bits
    → number_read bits text ≡ Some (digits_value 10 (without_leading_plus text))
numeral_read bits text h small =
    let ds = without_leading_plus text in
    rw (lt-ltb 0 (length ds) h.0, digits_pass ds h.1, lt-ltb (digits_value 10 ds) (2 ^ bits) small) refl

abbrev fits : ℕ → Text → Bool
fits bits text = is_numeral (without_leading_plus text) && nat_lt (digits_value 10 (without_leading_plus text)) (2 ^ bits)

-- what `get_one` gives is the number that is read
pub read_is : (bits : ℕ) (E : Type 0) (G : List ℕ → Result ℕ E → Type 0) (text : Text) (r : Option ℕ) → ((u : List ℕ) (x : Result ℕ E) → G u x → ParsesUnsigned bits 10 u x)
    → ReadsOne G text r → r ≡ number_read bits text
read_is bits E G text (Some n) only h =
    let g = only text (Ok n) h in
    ap Some g.1 ∙ sym (numeral_read bits text g.0.0 g.0.1)
read_is bits E G text None only h = go (fits bits text) refl
  where
    go : (b : Bool) → fits bits text ≡ b → None ≡ number_read bits text
    go false t = rw t refl
    go true t =
        let outer = both _ _ t in
        let inner = both _ _ outer.0 in
        absurd (only text (Err h.0) h.1 ((ltb-true _ _ inner.0, digits_from (without_leading_plus text) inner.1), ltb-true _ _ outer.1))

pub one_is : (bits : ℕ) (E : Type 0) (G : List ℕ → Result ℕ E → Type 0) (text : Option Text) (r : Option ℕ) → ((u : List ℕ) (x : Result ℕ E) → G u x → ParsesUnsigned bits 10 u x)
    → (text ≡ None → r ≡ None) → ((t : List ℕ) → text ≡ Some t → ReadsOne G t r) → r ≡ option_and_then (number_read bits) text
one_is bits E G None r only none value = none refl
one_is bits E G (Some t) r only none value = read_is bits E G t r only (value t refl)

-- a text that passed an option's range is a number in it
pub accepted_number : (bits least most : ℕ) (text : Text) → most < 2 ^ bits → accepts false (vp.Unsigned least most) text ≡ true
    → (n : ℕ) × (number_read bits text ≡ Some n) × (least ≤ n) × (n ≤ most)
accepted_number bits least most text small e =
    let a = accepts-Accepts false (vp.Unsigned least most) text e in
    let v : ℕ = digits_value 10 (without_leading_plus text) in
    (v, numeral_read bits text a.0 (lt_of_le_of_lt a.3 small), a.2, a.3)

-- decimal digits with no plus
pub record IsDigits (text : Text) : Type 0 where
  pub numeral : IsNumeral 10 text
  pub whole : without_leading_plus text ≡ text

pub digits_are : (text : Text) → 0 < length text → all_ascii_digits text ≡ true → IsDigits text
digits_are [] some e = absurd (omega arith)
digits_are (d ∷ ds) some e =
    let all : AllDigits 10 (d ∷ ds) = (numerals_by_value _ tells_all_ascii_digits).to (d ∷ ds) e in
    let no_plus : d ≢ 43 = λ p. let k = digit_from_value d all.0 in absurd (omega arith) in
    record { numeral = (some, all); whole = without_leading_plus_none (d ∷ ds) no_plus }

pub digits_read : (bits : ℕ) (text : Text) → IsDigits text → digits_value 10 text < 2 ^ bits → number_read bits text ≡ Some (digits_value 10 text)
digits_read bits text h small =
    let numeral : IsNumeral 10 (without_leading_plus text) = rw h.whole h.numeral in
    let fits_too : digits_value 10 (without_leading_plus text) < 2 ^ bits = rw h.whole small in
    numeral_read bits text numeral fits_too ∙ ap (λ t. Some (digits_value 10 t)) h.whole

pub digits_accepted : (least most : ℕ) (text : Text) → IsDigits text → most < 2 ^ 32 → least ≤ digits_value 10 text → digits_value 10 text ≤ most
    → accepts false (vp.Unsigned least most) text ≡ true
digits_accepted least most text h small low high =
    let same = h.whole in
    Accepts-accepts false (vp.Unsigned least most) text (rw same h.numeral, rw same (omega arith), rw same low, rw same high)

-- ---- numbers up to a limit

pub within : (limit n : ℕ) → n ≤ limit → at_most limit (Some n) ≡ Some n
within limit n most = rw (le-leb n limit most)
