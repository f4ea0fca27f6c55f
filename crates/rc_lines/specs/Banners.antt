-- Banners: texts between two delimiters, whose lines are counted and passed over.
--
-- A banner begins with a line without indent whose first word is `banner` and which has at least three words. The
-- delimiter is `^C` where the third word begins with these two bytes, else the third word's first byte. The banner ends
-- where the delimiter comes again first, behind it on that line or on a later one.
use Rattle.std.specs.Prelude.{◌≡◌, ◌≤◌, ℕ, ◌==◌, Bool, false, ◌&&◌, ◌||◌, if◌then◌else◌, List, [], ◌∷◌, length, take_while, codes, Option, Some, None}
use Rattle.std.specs.List.{list_any}
use Rattle.std.specs.Str.{bytes_eq}
use Rattle.rc_openings.specs.Words.{is_blank, words_of}
use Rattle.rc_lines.specs.declared.banner.Delimiter.{Delimiter}
use Rattle.rc_lines.specs.declared.banner.Delimiter.TheVariants.{Byte, ControlC}
use Rattle.rc_lines.specs.declared.banner.Part.{Part}
use Rattle.rc_lines.specs.declared.banner.Part.TheVariants.{Plain, InBanner, Banner, ShortBanner, OpenBanner}

-- how many blanks lead a line
abbrev pub indent_of : List ℕ → ℕ
indent_of text = length (take_while is_blank text)

abbrev pub first_is_banner : List (List ℕ) → Bool
first_is_banner [] = false
first_is_banner (w ∷ ws) = bytes_eq w (codes "banner")

-- a line without indent whose first word is `banner`
unfoldable pub is_banner : List ℕ → Bool
is_banner text = (indent_of text == 0) && first_is_banner (words_of text)

-- the text's first byte is a `b`
abbrev pub begins_with_b : List ℕ → Bool
begins_with_b [] = false
begins_with_b (b ∷ bs) = b == 98

-- the text from its first word on, and behind the word that it begins with
abbrev pub from_word : List ℕ → List ℕ
from_word [] = []
from_word (b ∷ bs) = if is_blank b then from_word bs else b ∷ bs

abbrev pub behind_word : List ℕ → List ℕ
behind_word [] = []
behind_word (b ∷ bs) = if is_blank b then b ∷ bs else behind_word bs

-- the text from its third word on, which is empty where it has fewer words
abbrev pub third_word_on : List ℕ → List ℕ
third_word_on text = from_word (behind_word (from_word (behind_word (from_word text))))

-- the delimiter with which a text begins, and what stands behind it
pub record Opened : Type 0 where
  pub delimiter : Delimiter
  pub behind : List ℕ

abbrev pub opened_at : List ℕ → Option Opened
opened_at [] = None
opened_at (b ∷ []) = Some (record { delimiter = Byte b; behind = [] })
opened_at (b ∷ c ∷ cs) = if (b == 94) && (c == 67) then Some (record { delimiter = ControlC; behind = cs }) else Some (record { delimiter = Byte b; behind = c ∷ cs })

-- the delimiter of a banner line and what stands behind it, where the line has three words
abbrev pub opened : List ℕ → Option Opened
opened text = opened_at (third_word_on text)

-- a banner line has no delimiter exactly where it has fewer than three words
pub record IsShortWithTwoWords (text : List ℕ) : Type 0 where
  pub short : opened text ≡ None → length (words_of text) ≤ 2
  pub few : length (words_of text) ≤ 2 → opened text ≡ None

-- on each text: a banner line has no delimiter exactly where it has fewer than three words
abbrev pub ShortBannersHaveTwoWords : Type 0
ShortBannersHaveTwoWords = (text : List ℕ) → IsShortWithTwoWords text

-- a text begins with the delimiter; the delimiter stands somewhere in the text
abbrev pub begins : Delimiter → List ℕ → Bool
begins (Byte b) (x ∷ xs) = x == b
begins ControlC (x ∷ y ∷ ys) = (x == 94) && (y == 67)
begins _ _ = false

abbrev pub holds : Delimiter → List ℕ → Bool
holds d [] = false
holds d (x ∷ xs) = begins d (x ∷ xs) || holds d xs

-- a banner ends on its own line, or on one of the later ones, or not at all
abbrev pub banner_part : Option Opened → List (List ℕ) → Part
banner_part None later = ShortBanner
banner_part (Some o) later = if holds o.delimiter o.behind || list_any (holds o.delimiter) later then Banner else OpenBanner

-- what a line is, given the delimiter of the banner that is open and the lines after it
abbrev pub part_of : Option Delimiter → List ℕ → List (List ℕ) → Part
part_of (Some d) text later = InBanner
part_of None text later = if is_banner text then banner_part (opened text) later else Plain

abbrev pub left_open : Option Opened → Option Delimiter
left_open None = None
left_open (Some o) = if holds o.delimiter o.behind then None else Some o.delimiter

-- the delimiter of the banner that is open after a line
abbrev pub open_after : Option Delimiter → List ℕ → Option Delimiter
open_after (Some d) text = if holds d text then None else Some d
open_after None text = if is_banner text then left_open (opened text) else None
