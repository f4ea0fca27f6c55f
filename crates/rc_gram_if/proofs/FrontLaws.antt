-- What is left of a text behind a word, told by its front.
use Rattle.std.proofs.Common.{◌≡◌, ◌≢◌, ℕ, ◌<◌, ◌≤◌, Bool, true, false, cond, List, [], ◌∷◌, ◌++◌, length, take, drop, Some, None, refl, sym, ap, ◌∙◌, arith, eq-eqb}
use Rattle.std.specs.Prelude.{nat_eq}
use Rattle.std.proofs.lemmas.Bool.{eqb-true}
use Rattle.std.proofs.lemmas.List.{take-append-drop}
use Rattle.rc_openings.specs.Opening.{left_behind}
use Rattle.rc_gram_if.specs.Typed.{if_plain, is_numbered, is_plain_number}

nothing_left : (v : Bool) (a b : List ℕ) → left_behind a b ≡ None → cond v (left_behind a b) None ≡ None
nothing_left true a b e = e
nothing_left false a b e = refl

too_short : (front text : List ℕ) → length text < length front → left_behind front text ≡ None
too_short [] text h = absurd (omega arith)
too_short (a ∷ as') [] h = refl
too_short (a ∷ as') (b ∷ bs) h = nothing_left (nat_eq a b) as' bs (too_short as' bs (omega arith))

left_is : (front rest : List ℕ) → left_behind front (front ++ rest) ≡ Some rest
left_is [] rest = refl
left_is (a ∷ as') rest = ap (λ v. cond v (left_behind as' (as' ++ rest)) None) (eq-eqb a a refl) ∙ left_is as' rest

other_front : (front text : List ℕ) → length front ≤ length text → take (length front) text ≢ front → left_behind front text ≡ None
other_front [] text le ne = absurd (ne refl)
other_front (a ∷ as') [] le ne = refl
other_front (a ∷ as') (b ∷ bs) le ne = by (nat_eq a b) refl (λ e. other_front as' bs (omega arith) (λ same. ne (λ i. sym (eqb-true a b e) i ∷ same i)))
  where
    by : (v : Bool) → nat_eq a b ≡ v → (nat_eq a b ≡ true → left_behind as' bs ≡ None) → cond v (left_behind as' bs) None ≡ None
    by true e later = later e
    by false e later = refl

-- a text that is shorter than a word isn't that word with a number behind it
pub short_text : (word text : List ℕ) → length text < length word → is_numbered word text ≡ false
short_text word text h = ap if_plain (too_short word text h)

-- nor one that begins otherwise
pub other_text : (word text : List ℕ) → length word ≤ length text → take (length word) text ≢ word → is_numbered word text ≡ false
other_text word text le ne = ap if_plain (other_front word text le ne)

-- and else what is left tells
pub same_text : (word text : List ℕ) → take (length word) text ≡ word → is_numbered word text ≡ is_plain_number (drop (length word) text)
same_text word text e =
    let whole : text ≡ word ++ drop (length word) text = sym (take-append-drop (length word) text) ∙ ap (λ f. f ++ drop (length word) text) e in
    ap (is_numbered word) whole ∙ ap if_plain (left_is word (drop (length word) text))
