-- The lines of route maps (IOS `route-map`), by their words behind the opening.
use Rattle.std.specs.Prelude.{ℕ, Bool, true, false, nat_le, List, [], ◌∷◌, length, Option, Some, None, if◌then◌else◌, option_map, codes}
use Rattle.std.specs.List.{list_any}
use Rattle.std.specs.Option.{option_and_then}
use Rattle.std.specs.Str.{bytes_eq}
use Rattle.rc_base.specs.Communities.{community_set}
use Rattle.rc_base.specs.Name.{name_of}
use Rattle.rc_base.specs.declared.origin.Origin.TheVariants.{Igp, Incomplete}
use Rattle.rc_openings.specs.Values.{number_within}
use Rattle.rc_openings.specs.declared.form.MapEntryForm.{MapEntryForm}
use Rattle.rc_openings.specs.declared.form.MapEntryForm.TheVariants as form
use Rattle.rc_config.specs.ActionWord.{action_of}
use Rattle.rc_config.specs.declared.access_list.Action.{Action}
use Rattle.rc_config.specs.declared.map_line.MapLine.{MapLine}
use Rattle.rc_config.specs.declared.map_line.MapLine.TheVariants.{Match, Set}
use Rattle.rc_config.specs.declared.map_line.MatchKind.{MatchKind}
use Rattle.rc_config.specs.declared.map_line.MatchKind.TheVariants.{AccessList, PrefixList, CommunityList}
use Rattle.rc_config.specs.declared.map_line.SetLine.{SetLine}
use Rattle.rc_config.specs.declared.map_line.SetLine.TheVariants as set
use Rattle.rc_config.specs.declared.sets.MetricType.TheVariants.{Type1, Type2}
use Rattle.rc_gram_policy.specs.declared.map_opening.OpenedEntry.{OpenedEntry}
use Rattle.rc_gram_policy.specs.Parts.{values_in_front, values_of}
use Rattle.rc_gram_policy.specs.Values.{community_of, as_number_of}

abbrev pub entry_of : Option (List ℕ) → Option Action → Option ℕ → Option OpenedEntry
entry_of (Some map) (Some action) (Some n) = Some (record { map = map; number = n; action = action })
entry_of _ _ _ = None

-- `NAME permit|deny N`, N from 0 to 65535
abbrev pub opening_row : List (List ℕ) → Option OpenedEntry
opening_row (w ∷ a ∷ n ∷ []) = entry_of (name_of w) (action_of a) (number_within 0 65535 n)
opening_row _ = None

-- `NAME..`
abbrev pub match_row : MatchKind → ℕ → List (List ℕ) → Option MapLine
match_row kind line words = option_map (λ names. Match kind names line) (values_of name_of words)

-- one of the words is `exact-match`
abbrev pub asks_exact : List (List ℕ) → Bool
asks_exact words = list_any (λ w. bytes_eq w (codes "exact-match")) words

-- `NAME..`, none of them `exact-match`
abbrev pub match_community : ℕ → List (List ℕ) → Option MapLine
match_community line words = if asks_exact words then None else match_row CommunityList line words

-- one number, up to a limit
abbrev pub number_alone : ℕ → List (List ℕ) → Option ℕ
number_alone limit (n ∷ []) = number_within 0 limit n
number_alone limit _ = None

-- nothing stands behind the opening
abbrev pub if_alone : SetLine → List (List ℕ) → Option SetLine
if_alone line [] = Some line
if_alone line (w ∷ rest) = None

-- `[additive]`
abbrev pub additive_of : List (List ℕ) → Option Bool
additive_of [] = Some false
additive_of (w ∷ []) = if bytes_eq w (codes "additive") then Some true else None
additive_of _ = None

-- one community or more, and what stands behind them
abbrev pub change_by : List ℕ × List (List ℕ) → Option SetLine
change_by ([], rest) = None
change_by (n ∷ ns, rest) = option_map (λ additive. set.Communities (community_set (n ∷ ns)) additive) (additive_of rest)

-- `COMM.. [additive]`
abbrev pub community_change : List (List ℕ) → Option SetLine
community_change words = change_by (values_in_front community_of words)

abbrev pub if_few : List ℕ → Option (List ℕ)
if_few numbers = if nat_le (length numbers) 10 then Some numbers else None

-- `N..`, one to ten, each from 1 to 4294967295
abbrev pub prepended : List (List ℕ) → Option (List ℕ)
prepended words = option_and_then if_few (values_of as_number_of words)

-- a line that sets something
abbrev pub set_line : Option SetLine → Option MapLine
set_line set = option_map Set set

-- what a line of this number says in the block of an entry of a route map; `set origin` with another word fits no row
abbrev pub map_row : ℕ → MapEntryForm → List (List ℕ) → Option MapLine
map_row line form.MatchAddress words = match_row AccessList line words
map_row line form.MatchPrefixList words = match_row PrefixList line words
map_row line form.MatchCommunity words = match_community line words
map_row line form.SetLocalPreference words = set_line (option_map set.LocalPreference (number_alone 4294967295 words))
map_row line form.SetMetric words = set_line (option_map set.Metric (number_alone 4294967295 words))
map_row line form.SetMetricType1 words = set_line (if_alone (set.MetricType Type1) words)
map_row line form.SetMetricType2 words = set_line (if_alone (set.MetricType Type2) words)
map_row line form.SetWeight words = set_line (option_map set.Weight (number_alone 65535 words))
map_row line form.SetOrigin words = None
map_row line form.SetOriginIgp words = set_line (if_alone (set.Origin Igp) words)
map_row line form.SetOriginIncomplete words = set_line (if_alone (set.Origin Incomplete) words)
map_row line form.SetCommunity words = set_line (community_change words)
map_row line form.PrependAsPath words = set_line (option_map set.Prepend (prepended words))
