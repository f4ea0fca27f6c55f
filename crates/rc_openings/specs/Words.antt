-- The words of a line: what stands between blanks.
use Rattle.std.specs.Prelude.{ℕ, Bool, true, false, ◌||◌, nat_eq, List, [], ◌∷◌, drop}
use Rattle.std.specs.List.{slice_split, filter}
use Rattle.rc_openings.specs.declared.words.Words.{Words}

-- a blank: space or tab
abbrev pub is_blank : ℕ → Bool
is_blank b = nat_eq b 32 || nat_eq b 9

abbrev pub has_bytes : List ℕ → Bool
has_bytes [] = false
has_bytes (b ∷ bs) = true

abbrev pub starts_blank : List ℕ → Bool
starts_blank [] = false
starts_blank (b ∷ bs) = is_blank b

-- a word ends here: nothing follows, or a blank
abbrev pub ends_word : List ℕ → Bool
ends_word [] = true
ends_word (b ∷ bs) = is_blank b

-- the words of a text: the pieces between blanks that are not empty
unfoldable pub words_of : List ℕ → List (List ℕ)
words_of text = filter has_bytes (slice_split is_blank text)

-- the words that a cursor has before it
abbrev pub words_left : Words → List (List ℕ)
words_left w = words_of w.text.now

-- a cursor has no word before it
abbrev pub is_none_left : List (List ℕ) → Bool
is_none_left [] = true
is_none_left (w ∷ ws) = false

-- the first byte of the first word
abbrev pub first_byte : List (List ℕ) → ℕ
first_byte ((b ∷ bs) ∷ ws) = b
first_byte ([] ∷ ws) = 0
first_byte [] = 0

-- the first byte of the word behind so many
abbrev pub byte_behind : ℕ → List (List ℕ) → ℕ
byte_behind count ws = first_byte (drop count ws)
