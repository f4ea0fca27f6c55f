-- What a line of a prefix list, a community list or a route map says, by its words behind the opening.
use Rattle.std.specs.Prelude.{ℕ, List, Option, Some, None, Result, Ok, Err}
use Rattle.rc_openings.specs.Reading.{judged}
use Rattle.rc_openings.specs.declared.form.MapEntryForm.{MapEntryForm}
use Rattle.rc_openings.specs.declared.reading.LineRefusal.{LineRefusal}
use Rattle.rc_openings.specs.declared.reading.LineRefusal.TheVariants.{BadValue}
use Rattle.rc_config.specs.declared.community_list.CommunityLine.{CommunityLine}
use Rattle.rc_config.specs.declared.map_line.MapLine.{MapLine}
use Rattle.rc_config.specs.declared.prefix_list.PrefixLine.{PrefixLine}
use Rattle.rc_config.specs.declared.prefix_list.PrefixList.{PrefixList}
use Rattle.rc_gram_policy.specs.declared.map_opening.OpenedEntry.{OpenedEntry}
use Rattle.rc_gram_policy.specs.CommunityLines.{numbered_row, standard_row}
use Rattle.rc_gram_policy.specs.MapLines.{map_row, opening_row}
use Rattle.rc_gram_policy.specs.PrefixLines.{prefix_row}
use Rattle.rc_gram_policy.specs.Refused.{refused_in_entry, refused_in_list}

abbrev pub Answer : Type 0 → Type 0
Answer A = Result A LineRefusal

-- the line where it fits a row
abbrev pub fitted : {A : Type 0} → Option A → Answer A
fitted (Some line) = Ok line
fitted None = Err BadValue

-- a line that fits no row and has one of the refused words isn't modelled
abbrev pub answer_of : {A : Type 0} → List (List ℕ) → List (List ℕ) → Option A → Answer A
answer_of refused words row = judged refused words (fitted row)

-- `ip prefix-list NAME [seq N] permit|deny P/L [ge G] [le E]`
abbrev pub prefix_answer : List (List ℕ × PrefixList) → List (List ℕ) → Answer (List ℕ × PrefixLine)
prefix_answer lists words = fitted (prefix_row lists words)

-- `ip community-list N permit|deny COMM..`
abbrev pub numbered_answer : List (List ℕ) → Answer (List ℕ × CommunityLine)
numbered_answer words = answer_of refused_in_list words (numbered_row words)

-- `ip community-list standard NAME permit|deny COMM..`
abbrev pub standard_answer : List (List ℕ) → Answer (List ℕ × CommunityLine)
standard_answer words = answer_of refused_in_list words (standard_row words)

-- `route-map NAME permit|deny N`
abbrev pub opening_answer : List (List ℕ) → Answer OpenedEntry
opening_answer words = fitted (opening_row words)

-- a line in the block of an entry of a route map
abbrev pub map_answer : ℕ → MapEntryForm → List (List ℕ) → Answer MapLine
map_answer line f words = answer_of (refused_in_entry f) words (map_row line f words)
