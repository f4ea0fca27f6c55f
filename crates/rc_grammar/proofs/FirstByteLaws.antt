-- A line is passed over by its first byte that is no blank.
use Rattle.std.proofs.Common.{◌≡◌, ℕ, ◌≤◌, ◌-◌, ◌==◌, true, false, List, [], ◌∷◌, length, take, drop, get_or, arith, refl, sym}
use Rattle.std.specs.List.{slice_split, filter, onto_first}
use Rattle.std.proofs.lemmas.List.{take_all}
use Rattle.rc_openings.specs.Words.{words_of, is_blank, has_bytes, starts_blank}
use Rattle.rc_grammar.specs.File.{is_passed}

-- a blank at the front is no part of a word
pub blank_tail : (s : List ℕ) → 1 ≤ length s → is_blank (get_or s 0 0) ≡ true → words_of (take (length s - 1) (drop 1 s)) ≡ words_of s
unfolding words_of
blank_tail [] l h = absurd (omega arith)
blank_tail (b ∷ bs) l h = let fits : length bs ≤ length (b ∷ bs) - 1 = omega arith in rw (take_all (length (b ∷ bs) - 1) bs fits) (rw h refl)

by_word : (b : ℕ) (ps : List (List ℕ)) → is_passed (filter has_bytes (onto_first b ps)) ≡ (b == 33)
by_word b [] = refl
by_word b (p ∷ ps) = refl

pub passed_by_first : (s : List ℕ) → starts_blank s ≡ false → 1 ≤ length s → is_passed (words_of s) ≡ (get_or s 0 0 == 33)
unfolding words_of
passed_by_first [] h l = absurd (omega arith)
passed_by_first (b ∷ bs) h l = rw h (by_word b (slice_split is_blank bs))

pub passed_empty : (s : List ℕ) → length s ≡ 0 → is_passed (words_of s) ≡ true
unfolding words_of
passed_empty [] e = refl
passed_empty (b ∷ bs) e = absurd (omega arith)
