-- Files cut into lines, and what each line is, by computation. A line feed is 10, a carriage return 13 and a tab 9.
use Rattle.std.specs.Prelude.{◌≡◌, ℕ, ◌==◌, Bool, true, false, List, [], ◌∷◌, ◌++◌, map, replicate, codes, refl}
use Rattle.rc_lines.specs.Banners.{indent_of, is_banner}
use Rattle.rc_lines.specs.Lines.{lines_of, is_too_long}
use Rattle.rc_lines.specs.Reading.{line}
use Rattle.rc_lines.specs.declared.banner.Part.{Part}
use Rattle.rc_lines.specs.declared.banner.Part.TheVariants.{Plain, InBanner, Banner, ShortBanner, OpenBanner}
use Rattle.rc_openings.specs.Words.{words_of}

-- the two plain lines of a file
abbrev two_lines : List ℕ → List ℕ → List ℕ → Type 0
two_lines bytes first second = lines_of bytes ≡ line 1 first Plain ∷ line 2 second Plain ∷ []

abbrev one_line : List ℕ → List ℕ → Type 0
one_line bytes text = lines_of bytes ≡ line 1 text Plain ∷ []

abbrev a : ℕ
a = 97

abbrev b : ℕ
b = 98

-- a line ends with LF or with CRLF, and the last one may go without
pub cut :
    two_lines (a ∷ 10 ∷ b ∷ 10 ∷ []) (a ∷ []) (b ∷ [])
    × two_lines (a ∷ 13 ∷ 10 ∷ b ∷ 13 ∷ 10 ∷ []) (a ∷ []) (b ∷ [])
    × (lines_of (a ∷ 13 ∷ 10 ∷ 10 ∷ b ∷ 10 ∷ []) ≡ line 1 (a ∷ []) Plain ∷ line 2 [] Plain ∷ line 3 (b ∷ []) Plain ∷ [])
    × two_lines (a ∷ 10 ∷ b ∷ []) (a ∷ []) (b ∷ [])
    × one_line (10 ∷ []) []
    × (lines_of [] ≡ [])
unfolding is_banner words_of
cut = (refl, refl, refl, refl, refl, refl)

-- a return that no LF follows is of the text, and of several in front of an LF one alone is of the end
pub returns :
    two_lines (a ∷ 10 ∷ b ∷ 13 ∷ []) (a ∷ []) (b ∷ 13 ∷ [])
    × one_line (a ∷ 13 ∷ b ∷ 13 ∷ 13 ∷ 10 ∷ []) (a ∷ 13 ∷ b ∷ 13 ∷ [])
    × one_line (13 ∷ []) (13 ∷ [])
unfolding is_banner words_of
returns = (refl, refl, refl)

-- blanks alone, and bytes of no text, are lines like others
pub odd_bytes :
    one_line (32 ∷ 9 ∷ 10 ∷ []) (32 ∷ 9 ∷ [])
    × two_lines (0 ∷ 255 ∷ 10 ∷ 255 ∷ []) (0 ∷ 255 ∷ []) (255 ∷ [])
unfolding is_banner words_of
odd_bytes = (refl, refl)

-- words stand between blanks, of whatever bytes they are
pub words :
    (words_of (codes "ip route") ≡ codes "ip" ∷ codes "route" ∷ [])
    × (words_of (9 ∷ codes "ip" ++ 9 ∷ 32 ∷ 9 ∷ codes "route" ++ 32 ∷ []) ≡ codes "ip" ∷ codes "route" ∷ [])
    × (words_of (a ∷ 13 ∷ []) ≡ (a ∷ 13 ∷ []) ∷ [])
    × (words_of (0 ∷ 32 ∷ 255 ∷ []) ≡ (0 ∷ []) ∷ (255 ∷ []) ∷ [])
    × (words_of (32 ∷ 9 ∷ 32 ∷ []) ≡ [])
    × (words_of [] ≡ [])
unfolding words_of
words = (refl, refl, refl, refl, refl, refl)

-- the line of a file without its end
abbrev texts : List ℕ → List (List ℕ)
texts bytes = map (λ l. l.text) (lines_of bytes)

pub without_its_end : texts (9 ∷ codes "ip" ++ 9 ∷ 32 ∷ 9 ∷ codes "route " ++ 13 ∷ 10 ∷ []) ≡ (9 ∷ codes "ip" ++ 9 ∷ 32 ∷ 9 ∷ codes "route ") ∷ []
unfolding is_banner words_of
without_its_end = refl

-- a line without a blank in front has no indent, an empty one too; a return is no blank
abbrev is_flush : List ℕ → Bool
is_flush text = indent_of text == 0

pub indents :
    (is_flush (codes "ip route") ≡ true)
    × (is_flush [] ≡ true)
    × (is_flush (13 ∷ []) ≡ true)
    × (is_flush (codes " ip route") ≡ false)
    × (is_flush (9 ∷ codes "ip route") ≡ false)
indents = (refl, refl, refl, refl, refl)

-- what the lines of a file are
abbrev parts : List ℕ → List Part
parts bytes = map (λ l. l.part) (lines_of bytes)

-- a banner is closed on a later line or on its own, or on none, and one without a third word is short
pub banners :
    (parts (codes "banner motd ^C" ++ 13 ∷ 10 ∷ codes " a" ++ 13 ∷ 10 ∷ codes "b ^C c" ++ 13 ∷ 10 ∷ codes "end" ++ 13 ∷ 10 ∷ []) ≡ Banner ∷ InBanner ∷ InBanner ∷ Plain ∷ [])
    × (parts (codes "banner motd #hi#" ++ 10 ∷ codes "end" ++ 10 ∷ []) ≡ Banner ∷ Plain ∷ [])
    × (parts (codes "banner motd #" ++ 10 ∷ codes "banner exec x" ++ 10 ∷ []) ≡ OpenBanner ∷ InBanner ∷ [])
    × (parts (codes "banner motd" ++ 10 ∷ codes "end" ++ 10 ∷ []) ≡ ShortBanner ∷ Plain ∷ [])
unfolding is_banner words_of
banners = (refl, refl, refl, refl)

-- a line has at most 4,096 bytes, and its end is none of them
pub long_lines : (is_too_long (replicate 4096 a) ≡ false) × (is_too_long (replicate 4097 a) ≡ true)
long_lines = (refl, refl)
