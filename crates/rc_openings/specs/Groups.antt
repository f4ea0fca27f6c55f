-- A table by how a line finds the openings that it may begin with.
use Rattle.std.specs.Prelude.{◌≡◌, ℕ, zero, suc, ◌+◌, Bool, true, ◌||◌, ◌&&◌, List, [], ◌∷◌, length, map, flat_map, nat_eq, nat_lt, nat_le}
use Rattle.std.specs.List.{filter, list_all, list_any}
use Rattle.rc_openings.specs.declared.table.Index.{Index}
use Rattle.rc_openings.specs.declared.table.Longer.{Longer}
use Rattle.rc_openings.specs.declared.table.Table.{Table}
use Rattle.rc_openings.specs.Opening.{Row, row_of}
use Rattle.rc_openings.specs.Words.{byte_behind}

-- the letters from `A` to `z`, which are 65 to 122, and the six signs between them
abbrev pub is_letter : ℕ → Bool
is_letter b = nat_le 65 b && nat_le b 122

abbrev pub letters_from : ℕ → ℕ → List ℕ
letters_from b zero = []
letters_from b (suc n) = b ∷ letters_from (suc b) n

unfoldable pub letters : List ℕ
letters = letters_from 65 58

-- the rows whose key is this byte
abbrev pub keyed : (List (List ℕ) → ℕ) → ℕ → List Row → List Row
keyed key b rows = filter (λ r. nat_eq (key r.words) b) rows

-- the rows of each letter
abbrev pub groups : (List (List ℕ) → ℕ) → List Row → List (List Row)
groups key rows = map (λ b. keyed key b rows) letters

-- where each of some lists starts when they are joined from a place on, and where the last one ends
abbrev pub starts_from : {X : Type 0} → ℕ → List (List X) → List ℕ
starts_from place [] = place ∷ []
starts_from place (xs ∷ xss) = place ∷ starts_from (place + length xs) xss

-- the row's key is a letter, and so stands for itself: `*`, which is 42, does not
abbrev pub is_placed : (List (List ℕ) → ℕ) → Row → Bool
is_placed key row = nat_lt 42 (key row.words) && is_letter (key row.words)

-- the program's index holds these rows: those of each letter of this key, one letter behind the other, and where each letter's start
pub record IsIndex (key : List (List ℕ) → ℕ) (index : Index) (rows : List Row) : Type 0 where
  pub openings : map row_of index.openings.now ≡ flat_map (λ rs. rs) (groups key rows)
  pub starts : index.starts.now ≡ starts_from 0 (groups key rows)
  pub placed : list_all (is_placed key) rows ≡ true

-- a byte is one of these
abbrev pub is_one_of : List ℕ → ℕ → Bool
is_one_of bytes b = list_any (nat_eq b) bytes

-- the program holds these rows, of more than so many words: by the first byte of the word behind so many, and by the bytes with which they begin
pub record AreLonger (count : ℕ) (longer : Longer) (rows : List Row) : Type 0 where
  pub index : IsIndex (byte_behind count) longer.index rows
  pub fronts : list_all (λ r. nat_lt 42 (byte_behind 0 r.words) && is_one_of longer.fronts.now (byte_behind 0 r.words)) rows ≡ true

-- the rows with no second word, with `*` for it, and with a word that stands for itself
abbrev pub one_word : List Row → List Row
one_word rows = filter (λ r. nat_eq (byte_behind 1 r.words) 0) rows

abbrev pub starred : List Row → List Row
starred rows = filter (λ r. nat_eq (byte_behind 1 r.words) 42) rows

abbrev pub more_words : List Row → List Row
more_words rows = filter (λ r. nat_lt 42 (byte_behind 1 r.words)) rows

abbrev pub has_one_word : Row → Bool
has_one_word row = nat_eq (length row.words) 1

-- it is one of these
abbrev pub is_of_three : Row → Bool
is_of_three row = nat_eq (byte_behind 1 row.words) 0 || nat_eq (byte_behind 1 row.words) 42 || nat_lt 42 (byte_behind 1 row.words)

-- the program's table holds these rows
pub record IsTable (table : Table) (rows : List Row) : Type 0 where
  pub ones : list_all has_one_word (one_word rows) ≡ true
  pub one_word : IsIndex (byte_behind 0) table.one_word (one_word rows)
  pub starred : AreLonger 2 table.starred (starred rows)
  pub more_words : AreLonger 1 table.more_words (more_words rows)
  pub three : list_all is_of_three rows ≡ true
