-- The lines of prefix lists (IOS `ip prefix-list`), by their words behind the opening.
use Rattle.std.specs.Prelude.{ℕ, ◌+◌, ◌&&◌, not, nat_le, List, [], ◌∷◌, Option, Some, None, if◌then◌else◌, option_map, unwrap_or, codes}
use Rattle.std.specs.Option.{option_and_then}
use Rattle.rc_base.specs.Name.{name_of}
use Rattle.rc_base.specs.Prefix.{Cidr}
use Rattle.rc_openings.specs.Part.{and_then}
use Rattle.rc_openings.specs.Values.{prefix_of}
use Rattle.rc_openings.specs.Words.{is_none_left}
use Rattle.rc_config.specs.ActionWord.{action_of}
use Rattle.rc_config.specs.Named.{named}
use Rattle.rc_config.specs.PrefixList.{greatest_sequence, has_sequence, no_lines}
use Rattle.rc_config.specs.declared.access_list.Action.{Action}
use Rattle.rc_config.specs.declared.prefix_list.PrefixLine.{PrefixLine}
use Rattle.rc_config.specs.declared.prefix_list.PrefixList.{PrefixList}
use Rattle.rc_gram_policy.specs.Parts.{optional}

-- `[ge G] [le E]` behind a prefix of length L: L < G <= 32, L < E <= 32 and G <= E
abbrev pub bounded : ℕ → Action → Cidr → List (List ℕ) → Option PrefixLine
bounded n action prefix words =
    and_then (optional (codes "ge") (prefix.len + 1) 32 words) (λ ge rest.
    and_then (optional (codes "le") (unwrap_or ge (prefix.len + 1)) 32 rest) (λ le behind.
    if is_none_left behind then Some (record { sequence = n; action = action; prefix = prefix; ge = ge; le = le }) else None))

abbrev pub tested : ℕ → Option Action → Option Cidr → List (List ℕ) → Option PrefixLine
tested n (Some action) (Some prefix) words = bounded n action prefix words
tested n _ _ words = None

-- `permit|deny P/L [ge G] [le E]`
abbrev pub line_numbered : ℕ → List (List ℕ) → Option PrefixLine
line_numbered n (a ∷ p ∷ rest) = tested n (action_of a) (prefix_of p) rest
line_numbered n _ = None

-- a number to 4294967295 that no line has
abbrev pub if_free : List PrefixLine → ℕ → Option ℕ
if_free lines n = if nat_le n 4294967295 && not (has_sequence lines n) then Some n else None

-- 5 in a list without lines, and else 5 above the number of the last line, which is the greatest
abbrev pub number_behind : Option ℕ → ℕ
number_behind None = 5
number_behind (Some last) = last + 5

-- the number that a line gets, which may have one written; none where it would be too large, or where a line has it already
abbrev pub sequence_for : List PrefixLine → Option ℕ → Option ℕ
sequence_for lines (Some written) = if_free lines written
sequence_for lines None = if_free lines (number_behind (greatest_sequence lines))

-- `[seq N] permit|deny P/L [ge G] [le E]`, one more line behind these
abbrev pub line_behind : List PrefixLine → List (List ℕ) → Option PrefixLine
line_behind lines words =
    and_then (optional (codes "seq") 0 4294967295 words) (λ written rest. option_and_then (λ n. line_numbered n rest) (sequence_for lines written))

-- the lines of a list, which has none where it isn't there
abbrev pub lines_in : Option PrefixList → List PrefixLine
lines_in found = (unwrap_or found no_lines).lines

-- the list's name, and the line
abbrev pub line_of : List (List ℕ × PrefixList) → Option (List ℕ) → List (List ℕ) → Option (List ℕ × PrefixLine)
line_of lists None words = None
line_of lists (Some name) words = option_map (λ line. (name, line)) (line_behind (lines_in (named lists name)) words)

-- `NAME [seq N] permit|deny P/L [ge G] [le E]`, given the lists so far
abbrev pub prefix_row : List (List ℕ × PrefixList) → List (List ℕ) → Option (List ℕ × PrefixLine)
prefix_row lists [] = None
prefix_row lists (w ∷ rest) = line_of lists (name_of w) rest
