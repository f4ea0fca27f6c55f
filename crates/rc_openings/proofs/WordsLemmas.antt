-- The words of a text that begins with a word.
use Rattle.std.proofs.Common.{◌≡◌, ℕ, suc, ◌<◌, ◌≤◌, ◌+◌, ◌-◌, Bool, true, false, cond, not, List, [], ◌∷◌, length, take, drop, arith, refl, sym, ◌∙◌, ap, subst, add-one, get_or, zero, length-drop, Option, Some, None, Bor, MatchOption, is_some}
use Rattle.std.proofs.lemmas.Bool.{false≢true}
use Rattle.std.proofs.Math.Seq.{take-length}
use Rattle.std.specs.List.{position_or_len, slice_split, filter, onto_first}
use Rattle.std.proofs.Math.Nat.{add_comm}
use Rattle.std.proofs.lemmas.List.{take_all}
use Rattle.rc_openings.specs.Words.{words_of, is_blank, has_bytes, starts_blank, first_byte}

abbrev the_nil : List (List ℕ)
the_nil = []

drop_none : (n : ℕ) → drop n (the_nil) ≡ the_nil
drop_none zero = refl
drop_none (suc n) = refl

pub words-blank : (b : ℕ) (bs : List ℕ) → is_blank b ≡ true → words_of (b ∷ bs) ≡ words_of bs
unfolding words_of
words-blank b bs h = rw h refl

-- the pieces behind the first blank
abbrev pub later : List ℕ → List (List ℕ)
later [] = []
later (b ∷ bs) = cond (is_blank b) (slice_split is_blank bs) (later bs)

pub first_piece : (s : List ℕ) → slice_split is_blank s ≡ take (position_or_len is_blank s) s ∷ later s
first_piece [] = refl
first_piece (b ∷ bs) = by_blank (is_blank b) (first_piece bs)
  where
    by_blank : (v : Bool) → slice_split is_blank bs ≡ take (position_or_len is_blank bs) bs ∷ later bs
        → cond v ([] ∷ slice_split is_blank bs) (onto_first b (slice_split is_blank bs)) ≡ take (cond (not v) (1 + position_or_len is_blank bs) 0) (b ∷ bs) ∷ cond v (slice_split is_blank bs) (later bs)
    by_blank true h = refl
    by_blank false h = rw (add_comm 1 (position_or_len is_blank bs), add-one, h) refl

-- what stands behind the first piece
later-words : (s : List ℕ) → filter has_bytes (later s) ≡ words_of (drop (position_or_len is_blank s) s)
unfolding words_of
later-words [] = refl
later-words (b ∷ bs) = by_blank (is_blank b) refl (later-words bs)
  where
    by_blank : (v : Bool) → is_blank b ≡ v → filter has_bytes (later bs) ≡ words_of (drop (position_or_len is_blank bs) bs)
        → filter has_bytes (cond v (slice_split is_blank bs) (later bs)) ≡ words_of (drop (cond (not v) (1 + position_or_len is_blank bs) 0) (b ∷ bs))
    by_blank true e h = rw e refl
    by_blank false e h = rw (add_comm 1 (position_or_len is_blank bs), add-one) h

kept : (n : ℕ) (s : List ℕ) (ps : List (List ℕ)) → 0 < n → 0 < length s → filter has_bytes (take n s ∷ ps) ≡ take n s ∷ filter has_bytes ps
kept zero s ps h l = absurd (omega arith)
kept (suc n) [] ps h l = absurd (omega arith)
kept (suc n) (b ∷ bs) ps h l = refl

pub first_word : (s : List ℕ) → 0 < position_or_len is_blank s → words_of s ≡ take (position_or_len is_blank s) s ∷ words_of (drop (position_or_len is_blank s) s)
unfolding words_of
first_word [] h = absurd (omega arith)
first_word (b ∷ bs) h =
    ap (filter has_bytes) (first_piece (b ∷ bs)) ∙ kept (position_or_len is_blank (b ∷ bs)) (b ∷ bs) (later (b ∷ bs)) h (omega arith) ∙ ap (λ ws. take (position_or_len is_blank (b ∷ bs)) (b ∷ bs) ∷ ws) (later-words (b ∷ bs))

pub no_word : (s : List ℕ) → starts_blank s ≡ false → position_or_len is_blank s ≡ 0 → words_of s ≡ []
unfolding words_of
no_word [] h e = refl
no_word (b ∷ bs) h e = absurd (apart (is_blank b) h e)
  where
    apart : (v : Bool) → v ≡ false → cond (not v) (1 + position_or_len is_blank bs) 0 ≡ 0 → ⊥
    apart true g f = cc
    apart false g f = omega arith

pub blank_tail : (s : List ℕ) → 1 ≤ length s → is_blank (get_or s 0 0) ≡ true → words_of (take (length s - 1) (drop 1 s)) ≡ words_of s
blank_tail [] l h = absurd (omega arith)
blank_tail (b ∷ bs) l h = let fits : length bs ≤ length (b ∷ bs) - 1 = omega arith in rw (take_all (length (b ∷ bs) - 1) bs fits) (sym (words-blank b bs h))

pub first_word_at : (s : List ℕ) (n : ℕ) → n ≡ position_or_len is_blank s → 0 < n → words_of s ≡ take n s ∷ words_of (take (length s - n) (drop n s))
first_word_at s n e h =
    let fits : length (drop n s) ≤ length s - n = omega (arith, length-drop n s) in
    rw (take_all (length s - n) (drop n s) fits, e) (first_word s (rw e at h))

pub no_word_at : (s : List ℕ) (n : ℕ) → n ≡ 0 → words_of s ≡ [] → words_of (take (length s - n) (drop n s)) ≡ []
no_word_at s n e h = let z : length s - 0 ≡ length s = omega arith in rw (e, z, take-length) h

-- one word less
pub drop_one : (r : Option (Bor (List ℕ))) (old new : List (List ℕ)) → MatchOption r ((old ≡ []) × (new ≡ [])) (λ w. old ≡ w.now ∷ new) → (n i : ℕ) → i < n → drop (n - (i + 1)) new ≡ drop (n - i) old
drop_one None old new h n i lt = rw (h.0, h.1) (rw (drop_none (n - (i + 1)), drop_none (n - i)) refl)
drop_one (Some w) old new h n i lt = let e : n - i ≡ suc (n - (i + 1)) = omega arith in rw (e, h) refl

-- one word of each less
pub drop_both : (r t : Option (Bor (List ℕ))) (front rest old new : List (List ℕ)) → MatchOption r ((front ≡ []) × (rest ≡ [])) (λ w. front ≡ w.now ∷ rest) → is_some r ≡ true
    → MatchOption t ((old ≡ []) × (new ≡ [])) (λ w. old ≡ w.now ∷ new) → drop (length rest) new ≡ drop (length front) old
drop_both None t front rest old new f h o = absurd (false≢true h)
drop_both (Some w) None front rest old new f h o = rw (o.0, o.1) (rw (drop_none (length rest), drop_none (length front)) refl)
drop_both (Some w) (Some v) front rest old new f h o = rw (f, o) refl

-- the first word begins with the first byte
pub front_word : (b : ℕ) (bs : List ℕ) → is_blank b ≡ false → words_of (b ∷ bs) ≡ (b ∷ take (position_or_len is_blank bs) bs) ∷ words_of (drop (position_or_len is_blank bs) bs)
front_word b bs h =
    let e : position_or_len is_blank (b ∷ bs) ≡ suc (position_or_len is_blank bs) = rw (h, add_comm 1 (position_or_len is_blank bs), add-one) refl in
    let P : ℕ → Type 0 = λ n. words_of (b ∷ bs) ≡ take n (b ∷ bs) ∷ words_of (drop n (b ∷ bs)) in
    subst P e (first_word (b ∷ bs) (rw e (omega arith)))

pub first_byte_of : (s : List ℕ) → starts_blank s ≡ false → 1 ≤ length s → first_byte (words_of s) ≡ get_or s 0 0
first_byte_of [] h l = absurd (omega arith)
first_byte_of (b ∷ bs) h l = rw (front_word b bs h) refl

pub first_byte_none : (s : List ℕ) → length s ≡ 0 → first_byte (words_of s) ≡ 0
unfolding words_of
first_byte_none [] e = refl
first_byte_none (b ∷ bs) e = absurd (omega arith)
