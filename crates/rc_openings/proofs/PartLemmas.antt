-- What a glance at the texts of an opening and of a line tells of their words.
use borrow.Author.Tests.{ltb-true}
use Rattle.std.proofs.Common.{◌≡◌, ℕ, suc, ◌<◌, arith, Bool, true, false, not, ◌||◌, ◌&&◌, cond, ◌⊎◌, inl, inr, List, [], ◌∷◌, ◌++◌, append-nil, ap, length, take, drop, Some, None, is_some, unwrap_or, refl, sym, ◌∙◌, subst, add-one}
use Rattle.std.specs.Prelude.{nat_eq, nat_lt, codes}
use Rattle.std.specs.Str.{bytes_eq}
use Rattle.std.specs.List.{slice_split, filter, onto_first}
use Rattle.std.proofs.lemmas.List.Elements.{filter-append}
use Rattle.std.proofs.lemmas.Slice.Eq.{bytes_eq-Decides}
use Rattle.std.specs.List.{position_or_len}
use Rattle.std.proofs.Math.Nat.{add_comm}
use Rattle.std.proofs.Math.Bool.{and-false}
use Rattle.std.proofs.lemmas.Bool.{false≢true, eqb-true, ne_eqb, and_parts}
use Rattle.std.proofs.lemmas.Bool.Decides.{nat_tests}
use Rattle.rc_openings.specs.Words.{words_of, is_blank, has_bytes, ends_word}
use Rattle.rc_openings.specs.Opening.{begins_with, stands_for, first_difference, told_by, glance_behind, left_behind}
use Rattle.rc_openings.specs.declared.opening.Glance.{Glance}
use Rattle.rc_openings.specs.declared.opening.Glance.TheVariants.{Begins, Differs, Unclear}
use Rattle.rc_openings.proofs.WordsLemmas.{words-blank, front_word, first_piece}
use Rattle.rc_openings.proofs.ApartLemmas.{or_left, or_right}

-- what the texts tell at a glance, byte by byte
abbrev pub compared : ℕ → List ℕ → List ℕ → Glance
compared p [] [] = Begins
compared p [] (b ∷ bs) = cond (is_blank b) Begins Unclear
compared p (a ∷ as') [] = Unclear
compared p (a ∷ as') (b ∷ bs) = cond (nat_eq a b) (compared a as' bs) (told_by (Some (p, a, b)))

pub glance_is : (p : ℕ) (opening line : List ℕ) → compared p opening line ≡ glance_behind p opening line
glance_is p [] [] = refl
glance_is p [] (b ∷ l) = refl
glance_is p (a ∷ o) [] = refl
glance_is p (a ∷ o) (b ∷ l) = by (nat_eq a b) refl (glance_is a o l)
  where
    by : (v : Bool) → nat_eq a b ≡ v → compared a o l ≡ glance_behind a o l → cond v (compared a o l) (told_by (Some (p, a, b))) ≡ cond ((nat_eq b a && bytes_eq (take (length o) l) o) && ends_word (drop (length o) l)) Begins (told_by (cond v (first_difference a o l) (Some (p, a, b))))
    by true e h = let other : nat_eq b a ≡ true = grind (arith, nat_tests) in rw other h
    by false e h = let other : nat_eq b a ≡ false = grind (arith, nat_tests) in rw other refl

-- behind a byte of both the line's word ends, and that of the opening goes on
abbrev ends_in_word : ℕ → List ℕ → List ℕ → Bool
ends_in_word p [] line = false
ends_in_word p (a ∷ as') [] = false
ends_in_word p (a ∷ as') (b ∷ bs) = not (is_blank p) && (nat_lt 42 a && is_blank b)

-- the texts differ within a word
abbrev parts_within_word : List ℕ → List ℕ → Bool
parts_within_word [] line = false
parts_within_word (a ∷ as') [] = false
parts_within_word (a ∷ as') (b ∷ bs) = cond (nat_eq a b) (parts_within_word as' bs || ends_in_word a as' bs) (nat_lt 42 a && nat_lt 32 b)

-- a word of one byte, and what stands behind it
lone_word : (c d : ℕ) (s : List ℕ) → is_blank c ≡ false → is_blank d ≡ true → words_of (c ∷ d ∷ s) ≡ (c ∷ []) ∷ words_of (d ∷ s)
lone_word c d s h g =
    let e : position_or_len is_blank (d ∷ s) ≡ 0 = rw g refl in
    let P : ℕ → Type 0 = λ n. words_of (c ∷ d ∷ s) ≡ (c ∷ take n (d ∷ s)) ∷ words_of (drop n (d ∷ s)) in
    subst P e (front_word c (d ∷ s) h)

-- one byte more at the front of a word
joined_word : (c d : ℕ) (s : List ℕ) → is_blank c ≡ false → is_blank d ≡ false
    → words_of (c ∷ d ∷ s) ≡ (c ∷ d ∷ take (position_or_len is_blank s) s) ∷ words_of (drop (position_or_len is_blank s) s)
joined_word c d s h g =
    let e : position_or_len is_blank (d ∷ s) ≡ suc (position_or_len is_blank s) = rw (g, add_comm 1 (position_or_len is_blank s), add-one) refl in
    let P : ℕ → Type 0 = λ n. words_of (c ∷ d ∷ s) ≡ (c ∷ take n (d ∷ s)) ∷ words_of (drop n (d ∷ s)) in
    subst P e (front_word c (d ∷ s) h)

-- where words differ, they differ with one byte more at both fronts; and of those no one is `*`
with_fronts : (star same rest x y : Bool) → ((star || same) && rest) ≡ false → (((x && false) || (y && same)) && rest) ≡ false
with_fronts true same rest x y h = rw h (and-false ((x && false) || (y && same)))
with_fronts false true rest x y h = rw h (and-false ((x && false) || (y && true)))
with_fronts false false rest true true h = refl
with_fronts false false rest true false h = refl
with_fronts false false rest false true h = refl
with_fronts false false rest false false h = refl

-- a byte behind 32 is no blank, and one behind 42 is no star either
no_blank : (b : ℕ) → nat_lt 32 b ≡ true → is_blank b ≡ false
no_blank b h = let lt : 32 < b = ltb-true 32 b h in rw (ne_eqb b 32 (λ e. omega arith), ne_eqb b 9 (λ e. omega arith)) refl

no_star : (b : ℕ) → nat_lt 42 b ≡ true → (is_blank b ≡ false) × (nat_eq b 42 ≡ false)
no_star b h =
    let lt : 42 < b = ltb-true 42 b h in
    (rw (ne_eqb b 32 (λ e. omega arith), ne_eqb b 9 (λ e. omega arith)) refl, ne_eqb b 42 (λ e. omega arith))

-- where the texts part later, their bytes at the front are both blanks or both none
no_blank_other : (c d : ℕ) (o l : List ℕ) → parts_within_word (c ∷ o) (d ∷ l) ≡ true → is_blank d ≡ is_blank c
no_blank_other c d o l h = by (nat_eq c d) refl h
  where
    by : (v : Bool) → nat_eq c d ≡ v → cond v (parts_within_word o l || ends_in_word c o l) (nat_lt 42 c && nat_lt 32 d) ≡ true → is_blank d ≡ is_blank c
    by true e g = rw (eqb-true c d e) refl
    by false e g = let p = and_parts (nat_lt 42 c) (nat_lt 32 d) g in no_blank d p.1 ∙ sym (no_star c p.0).0

-- one byte more in front of both texts
with_byte : (a : ℕ) (o l : List ℕ) → parts_within_word o l ≡ true → begins_with (words_of l) (words_of o) ≡ false → begins_with (words_of (a ∷ l)) (words_of (a ∷ o)) ≡ false
with_byte a o l h was = by (is_blank a) refl
  where
    behind : is_blank a ≡ false → (o l : List ℕ) → parts_within_word o l ≡ true → begins_with (words_of l) (words_of o) ≡ false → begins_with (words_of (a ∷ l)) (words_of (a ∷ o)) ≡ false
    behind e [] l h was = absurd (false≢true h)
    behind e (c ∷ o) [] h was = absurd (false≢true h)
    behind e (c ∷ o) (d ∷ l) h was = at (is_blank c) refl
      where
        at : (v : Bool) → is_blank c ≡ v → begins_with (words_of (a ∷ d ∷ l)) (words_of (a ∷ c ∷ o)) ≡ false
        at true g = rw (lone_word a c o e g, lone_word a d l e (no_blank_other c d o l h ∙ g), was) (and-false (stands_for (a ∷ []) (a ∷ [])))
        at false g =
            let other : is_blank d ≡ false = no_blank_other c d o l h ∙ g in
            let word = λ (s : List ℕ). take (position_or_len is_blank s) s in
            let rest = λ (s : List ℕ). words_of (drop (position_or_len is_blank s) s) in
            rw (joined_word a c o e g, joined_word a d l e other)
            (with_fronts (bytes_eq (c ∷ word o) (codes "*")) (bytes_eq (c ∷ word o) (d ∷ word l)) (begins_with (rest l) (rest o)) (nat_eq a 42) (nat_eq a a) (rw (front_word c o g, front_word d l other) at was))

    by : (v : Bool) → is_blank a ≡ v → begins_with (words_of (a ∷ l)) (words_of (a ∷ o)) ≡ false
    by true e = rw (words-blank a l e, words-blank a o e) was
    by false e = behind e o l h was

-- behind a byte of a word the line's word ends, and that of the opening goes on
word_goes_on : (a : ℕ) (o l : List ℕ) → ends_in_word a o l ≡ true → begins_with (words_of (a ∷ l)) (words_of (a ∷ o)) ≡ false
word_goes_on a [] l h = absurd (false≢true h)
word_goes_on a (c ∷ o) [] h = absurd (false≢true h)
word_goes_on a (c ∷ o) (d ∷ l) h =
    let p = and_parts (not (is_blank a)) (nat_lt 42 c && is_blank d) h in
    let q = and_parts (nat_lt 42 c) (is_blank d) p.1 in
    let here : is_blank a ≡ false = not_true (is_blank a) p.0 in
    rw (joined_word a c o here (no_star c q.0).0, lone_word a d l here q.1) (never (nat_eq a 42) (nat_eq a a) (begins_with (words_of (d ∷ l)) (words_of (drop (position_or_len is_blank o) o))))
  where
    not_true : (v : Bool) → not v ≡ true → v ≡ false
    not_true false e = refl
    not_true true e = absurd (false≢true e)

    never : (x y z : Bool) → (((x && false) || (y && false)) && z) ≡ false
    never true true z = refl
    never true false z = refl
    never false true z = refl
    never false false z = refl

either : (x y : Bool) → (x || y) ≡ true → (x ≡ true) ⊎ (y ≡ true)
either true y h = inl refl
either false y h = inr h

cannot_begin : (opening line : List ℕ) → parts_within_word opening line ≡ true → begins_with (words_of line) (words_of opening) ≡ false
cannot_begin [] line h = absurd (false≢true h)
cannot_begin (a ∷ o) [] h = absurd (false≢true h)
cannot_begin (a ∷ o) (b ∷ l) h = by (cannot_begin o l) (nat_eq a b) refl h
  where
    first_differ : nat_eq a b ≡ false → (nat_lt 42 a ≡ true) × (nat_lt 32 b ≡ true) → begins_with (words_of (b ∷ l)) (words_of (a ∷ o)) ≡ false
    first_differ e g = let star = no_star a g.0 in rw (front_word a o star.0, front_word b l (no_blank b g.1), star.1, e) refl

    by : (parts_within_word o l ≡ true → begins_with (words_of l) (words_of o) ≡ false)
        → (v : Bool) → nat_eq a b ≡ v → cond v (parts_within_word o l || ends_in_word a o l) (nat_lt 42 a && nat_lt 32 b) ≡ true → begins_with (words_of (b ∷ l)) (words_of (a ∷ o)) ≡ false
    by later true e g = elim (either (parts_within_word o l) (ends_in_word a o l) g) [
      | inl there ↦ rw (← (eqb-true a b e)) (with_byte a o l there (later there))
      | inr ends ↦ rw (← (eqb-true a b e)) (word_goes_on a o l ends)
    ]
    by later false e g = first_differ e (and_parts (nat_lt 42 a) (nat_lt 32 b) g)

-- what a glance tells, as tests
abbrev is_difference : Glance → Bool
is_difference Differs = true
is_difference Begins = false
is_difference Unclear = false

abbrev is_begin : Glance → Bool
is_begin Begins = true
is_begin Differs = false
is_begin Unclear = false

no_difference : (v : Bool) → is_difference (cond v Begins Unclear) ≡ false
no_difference true = refl
no_difference false = refl

differ-test : (v : Bool) → is_difference (cond v Differs Unclear) ≡ v
differ-test true = refl
differ-test false = refl

two_ways : (x y z w : Bool) → (x && (y || z && not w)) ≡ true → ((x && y) || (not w && (x && z))) ≡ true
two_ways true true z w h = refl
two_ways true false true false h = refl
two_ways true false true true h = absurd (false≢true h)
two_ways true false false w h = absurd (false≢true h)
two_ways false y z w h = absurd (false≢true h)

parts-there : (p : ℕ) (opening line : List ℕ) → is_difference (compared p opening line) ≡ true → (parts_within_word opening line || ends_in_word p opening line) ≡ true
parts-there p [] [] h = h
parts-there p [] (b ∷ l) h = sym (no_difference (is_blank b)) ∙ h
parts-there p (a ∷ o) [] h = h
parts-there p (a ∷ o) (b ∷ l) h = by (nat_eq a b) (parts-there a o l) h
  where
    by : (v : Bool) → (is_difference (compared a o l) ≡ true → (parts_within_word o l || ends_in_word a o l) ≡ true)
        → is_difference (cond v (compared a o l) (told_by (Some (p, a, b)))) ≡ true
        → (cond v (parts_within_word o l || ends_in_word a o l) (nat_lt 42 a && nat_lt 32 b) || ends_in_word p (a ∷ o) (b ∷ l)) ≡ true
    by true later g = or_left (parts_within_word o l || ends_in_word a o l) (ends_in_word p (a ∷ o) (b ∷ l)) (later g)
    by false later g =
        two_ways (nat_lt 42 a) (nat_lt 32 b) (is_blank b) (is_blank p) (sym (differ-test (nat_lt 42 a && (nat_lt 32 b || is_blank b && not (is_blank p)))) ∙ g)

no_end_at_front : (o l : List ℕ) → ends_in_word 32 o l ≡ false
no_end_at_front [] l = refl
no_end_at_front (a ∷ o) [] = refl
no_end_at_front (a ∷ o) (b ∷ l) = refl

or_false : (x : Bool) → (x || false) ≡ true → x ≡ true
or_false true h = refl
or_false false h = h

pub differs : (opening line : List ℕ) → compared 32 opening line ≡ Differs → begins_with (words_of line) (words_of opening) ≡ false
differs opening line h =
    let there = rw (no_end_at_front opening line) at (parts-there 32 opening line (ap is_difference h)) in
    cannot_begin opening line (or_false (parts_within_word opening line) there)

begin-test : (v : Bool) → is_begin (cond v Begins Unclear) ≡ v
begin-test true = refl
begin-test false = refl

no_begin : (v : Bool) → is_begin (cond v Differs Unclear) ≡ false
no_begin true = refl
no_begin false = refl

front-there : (p : ℕ) (opening line : List ℕ) → is_begin (compared p opening line) ≡ true → (line ≡ opening ++ drop (length opening) line) × (ends_word (drop (length opening) line) ≡ true)
front-there p [] [] h = (refl, refl)
front-there p [] (b ∷ l) h = (refl, sym (begin-test (is_blank b)) ∙ h)
front-there p (a ∷ o) [] h = absurd (false≢true h)
front-there p (a ∷ o) (b ∷ l) h = by (nat_eq a b) refl (front-there a o l) h
  where
    by : (v : Bool) → nat_eq a b ≡ v → (is_begin (compared a o l) ≡ true → (l ≡ o ++ drop (length o) l) × (ends_word (drop (length o) l) ≡ true))
        → is_begin (cond v (compared a o l) (told_by (Some (p, a, b)))) ≡ true → (b ∷ l ≡ a ∷ (o ++ drop (length o) l)) × (ends_word (drop (length o) l) ≡ true)
    by true e later g = let rest = later g in (rw (eqb-true a b e) (ap (λ s. b ∷ s) rest.0), rest.1)
    by false e later g = absurd (false≢true (sym (no_begin (nat_lt 42 a && (nat_lt 32 b || is_blank b && not (is_blank p)))) ∙ g))

-- the pieces on both sides of a blank
pieces-append : (s : List ℕ) (b : ℕ) (bs : List ℕ) → is_blank b ≡ true → slice_split is_blank (s ++ b ∷ bs) ≡ slice_split is_blank s ++ slice_split is_blank bs
pieces-append [] b bs h = rw h refl
pieces-append (x ∷ s) b bs h = by (is_blank x) (pieces-append s b bs h)
  where
    by : (v : Bool) → slice_split is_blank (s ++ b ∷ bs) ≡ slice_split is_blank s ++ slice_split is_blank bs
        → cond v ([] ∷ slice_split is_blank (s ++ b ∷ bs)) (onto_first x (slice_split is_blank (s ++ b ∷ bs))) ≡ cond v ([] ∷ slice_split is_blank s) (onto_first x (slice_split is_blank s)) ++ slice_split is_blank bs
    by true e = ap (λ ps. [] ∷ ps) e
    by false e = rw (e, first_piece s) refl

words-append : (s r : List ℕ) → ends_word r ≡ true → words_of (s ++ r) ≡ words_of s ++ words_of r
unfolding words_of
words-append s [] h = rw (append-nil s, append-nil (filter has_bytes (slice_split is_blank s))) refl
words-append s (b ∷ bs) h =
    ap (filter has_bytes) (pieces-append s b bs h) ∙ filter-append has_bytes (slice_split is_blank s) (slice_split is_blank bs)
    ∙ ap (λ ws. words_of s ++ ws) (sym (words-blank b bs h))

drop-front : {X : Type 0} (xs ys : List X) → drop (length xs) (xs ++ ys) ≡ ys
drop-front [] ys = refl
drop-front (x ∷ xs) ys = drop-front xs ys

left-there : (front text rest : List ℕ) → left_behind front text ≡ Some rest → text ≡ front ++ rest
left-there [] text rest h = some_same text rest h
  where
    some_same : (s r : List ℕ) → Some s ≡ Some r → s ≡ r
    some_same s r e = ap (λ o. unwrap_or o []) e
left-there (a ∷ as') [] rest h = absurd (false≢true (ap is_some h))
left-there (a ∷ as') (b ∷ bs) rest h = by (nat_eq a b) refl (left-there as' bs rest) h
  where
    by : (v : Bool) → nat_eq a b ≡ v → (left_behind as' bs ≡ Some rest → bs ≡ as' ++ rest) → cond v (left_behind as' bs) None ≡ Some rest → b ∷ bs ≡ a ∷ (as' ++ rest)
    by true e later g = rw (eqb-true a b e) (ap (λ s. b ∷ s) (later g))
    by false e later g = absurd (false≢true (ap is_some g))

-- the words behind those of a front, where a word ends behind it
pub words_behind : (front text rest : List ℕ) → left_behind front text ≡ Some rest → ends_word rest ≡ true → words_of rest ≡ drop (length (words_of front)) (words_of text)
words_behind front text rest h ends =
    rw (left-there front text rest h, words-append front rest ends) (sym (drop-front (words_of front) (words_of rest)))

begins-front : (ws vs : List (List ℕ)) → begins_with (ws ++ vs) ws ≡ true
begins-front [] vs = refl
begins-front (w ∷ ws) vs =
    let one : stands_for w w ≡ true = or_right (bytes_eq w (codes "*")) (bytes_eq w w) ((bytes_eq-Decides w w).1 refl) in
    rw one (begins-front ws vs)

pub begins : (opening line : List ℕ) → compared 32 opening line ≡ Begins → begins_with (words_of line) (words_of opening) ≡ true
begins opening line h =
    let there = front-there 32 opening line (ap is_begin h) in
    let rest = drop (length opening) line in
    let words : words_of line ≡ words_of opening ++ words_of rest = ap words_of there.0 ∙ words-append opening rest there.1 in
    rw words (begins-front (words_of opening) (words_of rest))
