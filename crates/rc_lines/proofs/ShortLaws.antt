-- A banner line is short exactly where it has fewer than three words.
use Rattle.std.proofs.Common.{refl, ◌≡◌, ◌∙◌, sym, ap, ℕ, suc, ◌≤◌, ◌==◌, ◌&&◌, Bool, true, false, cond, List, [], ◌∷◌, length, drop, Some, None, arith}
use Rattle.std.specs.List.{slice_split, filter, onto_first}
use Rattle.std.proofs.lemmas.Option.{none-some}
use Rattle.rc_lines.specs.declared.banner.Delimiter.TheVariants.{Byte, ControlC}
use Rattle.rc_openings.specs.Words.{is_blank, has_bytes, words_of}
use Rattle.rc_lines.specs.Banners.{from_word, behind_word, third_word_on, Opened, opened_at, ShortBannersHaveTwoWords}

-- leading blanks are no word
from_word-words : (text : List ℕ) → words_of (from_word text) ≡ words_of text
unfolding words_of
from_word-words [] = refl
from_word-words (b ∷ bs) = by (is_blank b) refl (from_word-words bs)
  where
    by : (blank : Bool) → is_blank b ≡ blank → filter has_bytes (slice_split is_blank (from_word bs)) ≡ filter has_bytes (slice_split is_blank bs)
        → filter has_bytes (slice_split is_blank (cond blank (from_word bs) (b ∷ bs))) ≡ filter has_bytes (cond blank ([] ∷ slice_split is_blank bs) (onto_first b (slice_split is_blank bs)))
    by true is rest = rest
    by false is rest = ap (λ t. filter has_bytes (cond t ([] ∷ slice_split is_blank bs) (onto_first b (slice_split is_blank bs)))) is

-- the pieces behind the first one are those behind the word that a text begins with
behind_word-pieces : (text : List ℕ) → filter has_bytes (drop 1 (slice_split is_blank text)) ≡ filter has_bytes (slice_split is_blank (behind_word text))
behind_word-pieces [] = refl
behind_word-pieces (b ∷ bs) = by (is_blank b) refl (slice_split is_blank bs) refl (behind_word-pieces bs)
  where
    by : (blank : Bool) → is_blank b ≡ blank → (pieces : List (List ℕ)) → slice_split is_blank bs ≡ pieces → filter has_bytes (drop 1 pieces) ≡ filter has_bytes (slice_split is_blank (behind_word bs))
        → filter has_bytes (drop 1 (cond blank ([] ∷ pieces) (onto_first b pieces))) ≡ filter has_bytes (slice_split is_blank (cond blank (b ∷ bs) (behind_word bs)))
    by true is pieces same rest = sym (ap (λ t. filter has_bytes (cond t ([] ∷ slice_split is_blank bs) (onto_first b (slice_split is_blank bs)))) is ∙ ap (filter has_bytes) same)
    by false is [] same rest = rest
    by false is (p ∷ ps) same rest = rest

-- whether a text begins with a word, where it has no leading blank
first_is_word : (b : ℕ) (bs : List ℕ) → is_blank b ≡ false → (pieces : List (List ℕ)) → slice_split is_blank bs ≡ pieces → (w : List ℕ) × (words_of (b ∷ bs) ≡ w ∷ filter has_bytes (drop 1 pieces))
unfolding words_of
first_is_word b bs not_blank [] same = (b ∷ [], ap (λ t. filter has_bytes (cond t ([] ∷ slice_split is_blank bs) (onto_first b (slice_split is_blank bs)))) not_blank ∙ ap (λ ps. filter has_bytes (onto_first b ps)) same)
first_is_word b bs not_blank (p ∷ ps) same = (b ∷ p, ap (λ t. filter has_bytes (cond t ([] ∷ slice_split is_blank bs) (onto_first b (slice_split is_blank bs)))) not_blank ∙ ap (λ ps. filter has_bytes (onto_first b ps)) same)

-- one word less
one_less : (text : List ℕ) → drop 1 (words_of (from_word text)) ≡ words_of (behind_word (from_word text))
unfolding words_of
one_less [] = refl
one_less (b ∷ bs) = by (is_blank b) refl (one_less bs)
  where
    by : (blank : Bool) → is_blank b ≡ blank → drop 1 (words_of (from_word bs)) ≡ words_of (behind_word (from_word bs)) → drop 1 (words_of (cond blank (from_word bs) (b ∷ bs))) ≡ words_of (behind_word (cond blank (from_word bs) (b ∷ bs)))
    by true is rest = rest
    by false is rest =
        let first = first_is_word b bs is (slice_split is_blank bs) refl in
        ap (drop 1) first.1 ∙ behind_word-pieces bs ∙ sym (ap (λ t. words_of (cond t (b ∷ bs) (behind_word bs))) is)

third-words : (text : List ℕ) → words_of (third_word_on text) ≡ drop 1 (drop 1 (words_of text))
third-words text =
    from_word-words (behind_word (from_word (behind_word (from_word text))))
    ∙ sym (one_less (behind_word (from_word text)))
    ∙ ap (drop 1) (from_word-words (behind_word (from_word text)) ∙ sym (one_less text) ∙ ap (drop 1) (from_word-words text))

-- from a word on there is nothing exactly where there is no word
nothing : (text : List ℕ) → words_of (from_word text) ≡ [] → from_word text ≡ []
nothing [] none = refl
nothing (b ∷ bs) none = by (is_blank b) refl (nothing bs) none
  where
    by : (blank : Bool) → is_blank b ≡ blank → (words_of (from_word bs) ≡ [] → from_word bs ≡ []) → words_of (cond blank (from_word bs) (b ∷ bs)) ≡ [] → cond blank (from_word bs) (b ∷ bs) ≡ []
    by true is rest empty = rest empty
    by false is rest empty =
        let first = first_is_word b bs is (slice_split is_blank bs) refl in
        let none : 0 ≡ suc (length (filter has_bytes (drop 1 (slice_split is_blank bs)))) = ap length (sym empty ∙ first.1) in
        absurd (omega (arith, none))

no_words : words_of [] ≡ []
unfolding words_of
no_words = refl

none_opened : (text : List ℕ) → opened_at text ≡ None → text ≡ []
none_opened [] none = refl
none_opened (b ∷ []) none = absurd (none-some _ (sym none))
none_opened (b ∷ c ∷ cs) none = by ((b == 94) && (c == 67)) (record { delimiter = ControlC; behind = cs }) (record { delimiter = Byte b; behind = c ∷ cs }) none
  where
    by : (control : Bool) (x y : Opened) → cond control (Some x) (Some y) ≡ None → b ∷ c ∷ cs ≡ []
    by true x y e = absurd (none-some x (sym e))
    by false x y e = absurd (none-some y (sym e))

two_or_fewer : (words : List (List ℕ)) → length words ≤ 2 → drop 1 (drop 1 words) ≡ []
two_or_fewer [] few = refl
two_or_fewer (v ∷ []) few = refl
two_or_fewer (v ∷ w ∷ []) few = refl
two_or_fewer (v ∷ w ∷ x ∷ xs) few = absurd (omega arith)

at_most_two : (words : List (List ℕ)) → drop 1 (drop 1 words) ≡ [] → length words ≤ 2
at_most_two [] none = omega arith
at_most_two (v ∷ []) none = omega arith
at_most_two (v ∷ w ∷ []) none = omega arith
at_most_two (v ∷ w ∷ x ∷ xs) none = let long : suc (length xs) ≡ 0 = ap length none in absurd (omega (arith, long))

pub short_banners : ShortBannersHaveTwoWords
short_banners text = record {
  short = λ none. at_most_two (words_of text) (sym (third-words text) ∙ ap words_of (none_opened (third_word_on text) none) ∙ no_words);
  few = λ few. ap opened_at (nothing (behind_word (from_word (behind_word (from_word text)))) (third-words text ∙ two_or_fewer (words_of text) few));
}
