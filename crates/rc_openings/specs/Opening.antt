-- Which opening decides a line.
use Rattle.std.specs.Prelude.{◌≡◌, ℕ, zero, suc, ◌≤◌, Bool, true, false, not, ◌||◌, ◌&&◌, List, [], ◌∷◌, ◌++◌, length, take, drop, nat_eq, nat_lt, get_or, if◌then◌else◌, codes, map, Contains, Option, Some, None}
use Rattle.std.specs.Str.{bytes_eq}
use Rattle.std.specs.List.{list_any}
use Rattle.rc_openings.specs.declared.form.Form.{Form as FormKind}
use Rattle.rc_openings.specs.declared.opening.Glance.{Glance}
use Rattle.rc_openings.specs.declared.opening.Glance.TheVariants.{Begins, Differs, Unclear}
use Rattle.rc_openings.specs.declared.opening.Opening.{Opening}
use Rattle.rc_openings.specs.declared.opening.Verdict.{Verdict}
use Rattle.rc_openings.specs.declared.opening.Verdict.TheVariants.{Form, Refused, Ignored}
use Rattle.rc_openings.specs.Words.{words_of, ends_word, is_blank}

-- the words of an opening, and what it says of a line that begins with them
pub record Row : Type 0 where
  pub words : List (List ℕ)
  pub verdict : Verdict

-- the row of an opening of the program
abbrev pub row_of : Opening → Row
row_of o = record { words = words_of o.text.now; verdict = o.verdict }

-- the words with which a form begins
abbrev pub form : List ℕ → FormKind → Row
form text kind = record { words = words_of text; verdict = Form kind }

abbrev pub refused : List ℕ → Row
refused text = record { words = words_of text; verdict = Refused }

-- an opening for each word of a text, behind the words of a front
abbrev pub ignored : List ℕ → List ℕ → List Row
ignored front text = map (λ w. record { words = words_of front ++ w ∷ []; verdict = Ignored }) (words_of text)

-- `*` stands for any one word
abbrev pub stands_for : List ℕ → List ℕ → Bool
stands_for token word = bytes_eq token (codes "*") || bytes_eq token word

-- the line begins with the words of an opening, in which `*` stands for any one word
abbrev pub begins_with : List (List ℕ) → List (List ℕ) → Bool
begins_with line [] = true
begins_with [] (t ∷ ts) = false
begins_with (w ∷ ws) (t ∷ ts) = stands_for t w && begins_with ws ts

-- a text begins with another one, whose last word ends there
abbrev pub begins_text : List ℕ → List ℕ → Bool
begins_text line front = bytes_eq (take (length front) line) front && ends_word (drop (length front) line)

-- how many bytes texts have in common at their fronts
abbrev pub common : List ℕ → List ℕ → ℕ
common [] bs = 0
common (a ∷ as') [] = 0
common (a ∷ as') (b ∷ bs) = if nat_eq a b then suc (common as' bs) else 0

-- the first two bytes at which texts differ, and the one before them in both; none where one of the texts begins with the other
abbrev pub first_difference : ℕ → List ℕ → List ℕ → Option (ℕ × ℕ × ℕ)
first_difference before [] line = None
first_difference before (a ∷ as') [] = None
first_difference before (a ∷ as') (b ∷ bs) = if nat_eq a b then first_difference a as' bs else Some (before, a, b)

-- What is told by the first bytes at which the texts of an opening and of a line differ. No byte up to `*`, which is 42, surely stands for
-- itself. No byte up to 32 is surely within a word; but a blank behind a byte of a word ends a word that the opening's goes on.
abbrev pub told_by : Option (ℕ × ℕ × ℕ) → Glance
told_by None = Unclear
told_by (Some (before, a, b)) = if nat_lt 42 a && (nat_lt 32 b || is_blank b && not (is_blank before)) then Differs else Unclear

-- what the texts of an opening and of a line tell at a glance, behind a byte of both
abbrev pub glance_behind : ℕ → List ℕ → List ℕ → Glance
glance_behind before opening line = if begins_text line opening then Begins else told_by (first_difference before opening line)

-- the same at their fronts, where a word begins as behind a blank
abbrev pub glance : List ℕ → List ℕ → Glance
glance opening line = glance_behind 32 opening line

-- the byte before the one at an index, and where there is none this one
abbrev pub byte_before : ℕ → List ℕ → ℕ → ℕ
byte_before before text zero = before
byte_before before text (suc n) = get_or text n 0

-- what is left of a text behind another one with which it begins
abbrev pub left_behind : List ℕ → List ℕ → Option (List ℕ)
left_behind [] text = Some text
left_behind (a ∷ as') [] = None
left_behind (a ∷ as') (b ∷ bs) = if nat_eq a b then left_behind as' bs else None

-- of the rows with which the line begins, this one has the most words
pub record IsDecisive (rows : List Row) (line : List (List ℕ)) (row : Row) : Type 0 where
  pub member : Contains rows row
  pub fits : begins_with line row.words ≡ true
  pub most : (other : Row) → Contains rows other → begins_with line other.words ≡ true → length other.words ≤ length row.words

abbrev pub NoneFits : List Row → List (List ℕ) → Type 0
NoneFits rows line = (row : Row) → Contains rows row → begins_with line row.words ≡ false

-- the row that was found is the decisive one, or none where none fits
abbrev pub IsAnswer : List Row → List (List ℕ) → Option Row → Type 0
IsAnswer rows line None = NoneFits rows line
IsAnswer rows line (Some row) = IsDecisive rows line row

-- the longer of a row and another one, if there is one
abbrev pub longer : Row → Option Row → Row
longer row None = row
longer row (Some other) = if nat_lt (length row.words) (length other.words) then other else row

-- the decisive row, computed
unfoldable pub decisive_row : List Row → List (List ℕ) → Option Row
decisive_row [] line = None
decisive_row (row ∷ rows) line = if begins_with line row.words then Some (longer row (decisive_row rows line)) else decisive_row rows line

abbrev pub is_form_verdict : Verdict → Bool
is_form_verdict (Form f) = true
is_form_verdict Refused = false
is_form_verdict Ignored = false

-- the line begins with a form opening of these rows
abbrev pub begins_form : List Row → List (List ℕ) → Bool
begins_form rows line = list_any (λ r. is_form_verdict r.verdict && begins_with line r.words) rows
