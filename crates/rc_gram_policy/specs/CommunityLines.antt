-- The lines of community lists (IOS `ip community-list`), by their words behind the opening.
use Rattle.std.specs.Prelude.{ℕ, List, [], ◌∷◌, Option, Some, None, option_map}
use Rattle.std.specs.Option.{option_and_then}
use Rattle.rc_base.specs.Communities.{community_set}
use Rattle.rc_base.specs.Name.{name_of, name_of_number}
use Rattle.rc_openings.specs.Values.{number_within}
use Rattle.rc_config.specs.ActionWord.{action_of}
use Rattle.rc_config.specs.declared.community_list.CommunityLine.{CommunityLine}
use Rattle.rc_config.specs.declared.access_list.Action.{Action}
use Rattle.rc_gram_policy.specs.Parts.{values_of}
use Rattle.rc_gram_policy.specs.Values.{community_of}

-- `COMM..` behind an action
abbrev pub line_with : Action → List (List ℕ) → Option CommunityLine
line_with action words = option_map (λ numbers. record { action = action; communities = community_set numbers }) (values_of community_of words)

-- `permit|deny COMM..`
abbrev pub community_line : List (List ℕ) → Option CommunityLine
community_line [] = None
community_line (a ∷ rest) = option_and_then (λ action. line_with action rest) (action_of a)

-- the list's name, and the line
abbrev pub line_of : Option (List ℕ) → List (List ℕ) → Option (List ℕ × CommunityLine)
line_of None words = None
line_of (Some name) words = option_map (λ line. (name, line)) (community_line words)

-- the name of the list of a number from 1 to 99
abbrev pub number_name : List ℕ → Option (List ℕ)
number_name w = option_map name_of_number (number_within 1 99 w)

-- `N permit|deny COMM..`
abbrev pub numbered_row : List (List ℕ) → Option (List ℕ × CommunityLine)
numbered_row [] = None
numbered_row (n ∷ rest) = line_of (number_name n) rest

-- `NAME permit|deny COMM..`
abbrev pub standard_row : List (List ℕ) → Option (List ℕ × CommunityLine)
standard_row [] = None
standard_row (w ∷ rest) = line_of (name_of w) rest
