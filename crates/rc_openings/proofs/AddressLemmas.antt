-- The parts of a word between dots, octet by octet.
use Rattle.std.proofs.Common.{◌≡◌, ◌≢◌, ℕ, ◌+◌, ◌-◌, ◌*◌, ◌<◌, Bool, true, false, eqb, cond, List, [], ◌∷◌, length, drop, get_or, Option, Some, None, refl, sym, ap, ◌∙◌, subst, arith}
use Rattle.std.specs.Char.{is_ascii_digit}
use Rattle.std.specs.List.{slice_split, onto_first, count_by, join_with_byte}
use Rattle.std.proofs.lemmas.Bool.{ne_eqb}
use Rattle.std.proofs.lemmas.Bool.Decides.{nat_tests}
use Rattle.std.proofs.lemmas.List.Splits.{slice_split-cons_no, length-slice_split, join_with_byte-slice_split}
use Rattle.rc_openings.specs.Values.{digits_from, octet, first_octet, address_of, address_of_octets, address_of_parts}

abbrev dot : ℕ → Bool
dot = λ b. eqb b 46

-- no octet stands before a dot where it is the first byte
at_front : (parts : List (List ℕ)) → first_octet ([] ∷ parts) ≡ None
at_front [] = refl
at_front (p ∷ ps) = refl

-- nor where there is no dot after the first byte
alone : (a : ℕ) (xs : List ℕ) → slice_split dot xs ≡ xs ∷ [] → first_octet (slice_split dot (a ∷ xs)) ≡ None
alone a xs is =
    let P : List (List ℕ) → Type 0 = λ parts. first_octet (cond (eqb a 46) ([] ∷ parts) (onto_first a parts)) ≡ None in
    let by : P (xs ∷ []) = elim (eqb a 46) as (λ t. first_octet (cond t ([] ∷ xs ∷ []) ((a ∷ xs) ∷ [])) ≡ None) [ true ↦ refl | false ↦ refl ] in
    subst P (sym is) by

-- nor where the first dot has four bytes before it
too_long : (a b c d : ℕ) (parts : List (List ℕ)) → first_octet (onto_first a (onto_first b (onto_first c (onto_first d parts)))) ≡ None
too_long a b c d [] = refl
too_long a b c d (p ∷ []) = refl
too_long a b c d (p ∷ q ∷ ps) = grind (arith, nat_tests)

far : (a b c d : ℕ) (rest : List ℕ) → b ≢ 46 → c ≢ 46 → d ≢ 46 → first_octet (slice_split dot (a ∷ b ∷ c ∷ d ∷ rest)) ≡ None
far a b c d rest hb hc hd =
    let is : slice_split dot (b ∷ c ∷ d ∷ rest) ≡ onto_first b (onto_first c (onto_first d (slice_split dot rest))) =
    slice_split-cons_no dot b (c ∷ d ∷ rest) (ne_eqb b 46 hb)
    ∙ ap (onto_first b) (slice_split-cons_no dot c (d ∷ rest) (ne_eqb c 46 hc) ∙ ap (onto_first c) (slice_split-cons_no dot d rest (ne_eqb d 46 hd))) in
    let P : List (List ℕ) → Type 0 = λ parts. first_octet (cond (eqb a 46) ([] ∷ parts) (onto_first a parts)) ≡ None in
    let after = onto_first b (onto_first c (onto_first d (slice_split dot rest))) in
    let by : P after = elim (eqb a 46) as (λ t. first_octet (cond t ([] ∷ after) (onto_first a after)) ≡ None) [ true ↦ at_front after | false ↦ too_long a b c d (slice_split dot rest) ] in
    subst P (sym is) by

-- so no octet stands before the first dot where none of the second, third and fourth byte is a dot
pub no_octet : (bs : List ℕ) → (1 < length bs → get_or bs 1 0 ≢ 46) → (2 < length bs → get_or bs 2 0 ≢ 46) → (3 < length bs → get_or bs 3 0 ≢ 46)
    → first_octet (slice_split dot bs) ≡ None
no_octet [] h1 h2 h3 = refl
no_octet (a ∷ []) h1 h2 h3 = alone a [] refl
no_octet (a ∷ b ∷ []) h1 h2 h3 = alone a (b ∷ []) (slice_split-cons_no dot b [] (ne_eqb b 46 (h1 (omega arith))))
no_octet (a ∷ b ∷ c ∷ []) h1 h2 h3 =
    let last = slice_split-cons_no dot c [] (ne_eqb c 46 (h2 (omega arith))) in
    alone a (b ∷ c ∷ []) (slice_split-cons_no dot b (c ∷ []) (ne_eqb b 46 (h1 (omega arith))) ∙ ap (onto_first b) last)
no_octet (a ∷ b ∷ c ∷ d ∷ rest) h1 h2 h3 = far a b c d rest (h1 (omega arith)) (h2 (omega arith)) (h3 (omega arith))

without_fourth : (x y z : Option ℕ) → address_of_octets x y z None ≡ None
without_fourth None y z = refl
without_fourth (Some a) None z = refl
without_fourth (Some a) (Some b) None = refl
without_fourth (Some a) (Some b) (Some c) = refl

-- a word with a dot is no number
no_number : (n : ℕ) (bs : List ℕ) → 0 < count_by dot bs → digits_from n bs ≡ None
no_number n [] h = absurd (omega arith)
no_number n (x ∷ xs) h = by (is_ascii_digit x) refl (λ later. no_number (10 * n + (x - 48)) xs later) where
  by : (t : Bool) → is_ascii_digit x ≡ t → (0 < count_by dot xs → digits_from (10 * n + (x - 48)) xs ≡ None) → cond t (digits_from (10 * n + (x - 48)) xs) None ≡ None
  by false e next = refl
  by true e next =
      let later : 0 < count_by dot xs = grind (arith, nat_tests) in
      next later

no_octet_with_dot : (bs : List ℕ) → 0 < count_by dot bs → octet bs ≡ None
no_octet_with_dot bs h = let none = no_number 0 bs h in grind (arith, nat_tests)

-- the last octet is the whole of what stands behind the third dot
by_last : (a b c last : List ℕ) (parts : List (List ℕ)) → slice_split dot last ≡ parts
    → address_of_parts (a ∷ b ∷ c ∷ parts) ≡ address_of_octets (octet a) (octet b) (octet c) (octet last)
by_last a b c last [] is = absurd (omega (arith, length-slice_split dot last, ap length is))
by_last a b c last (d ∷ []) is =
    let same : d ≡ last = sym (ap (join_with_byte 46) is) ∙ join_with_byte-slice_split 46 last in
    ap (λ bs. address_of_octets (octet a) (octet b) (octet c) (octet bs)) same
by_last a b c last (d ∷ e ∷ more) is =
    let none : octet last ≡ None = no_octet_with_dot last (omega (arith, length-slice_split dot last, ap length is)) in
    sym (ap (address_of_octets (octet a) (octet b) (octet c)) none ∙ without_fourth (octet a) (octet b) (octet c))

by_parts : (parts : List (List ℕ)) (last : List ℕ) (x y z : ℕ) → first_octet parts ≡ Some x → first_octet (drop 1 parts) ≡ Some y → first_octet (drop 1 (drop 1 parts)) ≡ Some z
    → drop 1 (drop 1 (drop 1 parts)) ≡ slice_split dot last → address_of_parts parts ≡ address_of_octets (Some x) (Some y) (Some z) (octet last)
by_parts [] last x y z hx hy hz is = cc
by_parts (a ∷ []) last x y z hx hy hz is = cc
by_parts (a ∷ b ∷ []) last x y z hx hy hz is = cc
by_parts (a ∷ b ∷ c ∷ []) last x y z hx hy hz is = cc
by_parts (a ∷ b ∷ c ∷ d ∷ more) last x y z hx hy hz is =
    by_last a b c last (d ∷ more) (sym is)
    ∙ ap (λ o. address_of_octets o (octet b) (octet c) (octet last)) hx
    ∙ ap (λ o. address_of_octets (Some x) o (octet c) (octet last)) hy
    ∙ ap (λ o. address_of_octets (Some x) (Some y) o (octet last)) hz

-- an address is three octets with a dot behind each, and a last one
pub by_octets : (word second third last : List ℕ) (x y z : ℕ) → (first_octet (slice_split dot word) ≡ Some x) × (drop 1 (slice_split dot word) ≡ slice_split dot second)
    → (first_octet (slice_split dot second) ≡ Some y) × (drop 1 (slice_split dot second) ≡ slice_split dot third)
    → (first_octet (slice_split dot third) ≡ Some z) × (drop 1 (slice_split dot third) ≡ slice_split dot last)
    → address_of word ≡ address_of_octets (Some x) (Some y) (Some z) (octet last)
by_octets word second third last x y z hx hy hz =
    by_parts (slice_split dot word) last x y z hx.0
    (ap first_octet hx.1 ∙ hy.0)
    (ap (λ parts. first_octet (drop 1 parts)) hx.1 ∙ ap first_octet hy.1 ∙ hz.0)
    (ap (λ parts. drop 1 (drop 1 parts)) hx.1 ∙ ap (drop 1) hy.1 ∙ hz.1)
