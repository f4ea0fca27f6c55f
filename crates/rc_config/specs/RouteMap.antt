-- Route maps (IOS `route-map`): their entries by number, and what each line adds to one.
use Rattle.std.specs.Prelude.{ℕ, ◌≤◌, List, [], ◌++◌, All, map, length}
use Rattle.std.specs.Option.{option_map_or, unwrap_or}
use Rattle.rc_config.specs.ByNumber.{placed, with_number, IsByNumber}
use Rattle.rc_config.specs.Sets.{no_sets, with_set, IsLawfulSet, IsPrepended}
use Rattle.rc_config.specs.declared.access_list.Action.{Action}
use Rattle.rc_config.specs.declared.map_line.MapLine.{MapLine}
use Rattle.rc_config.specs.declared.map_line.MapLine.TheVariants.{Match, Set}
use Rattle.rc_config.specs.declared.map_line.MatchKind.{MatchKind}
use Rattle.rc_config.specs.declared.map_line.MatchKind.TheVariants.{AccessList, PrefixList, CommunityList}
use Rattle.rc_config.specs.declared.route_map.MapEntry.{MapEntry}
use Rattle.rc_config.specs.declared.route_map.Mention.{Mention}
use Rattle.rc_config.specs.declared.route_map.RouteMap.{RouteMap}

-- the number by which an entry stands
abbrev pub number_of : MapEntry → ℕ
number_of e = e.number

-- a map without entries
abbrev pub no_entries : RouteMap
no_entries = record { entries = [] }

-- an entry without lines
abbrev pub fresh_entry : ℕ → Action → MapEntry
fresh_entry n action = record { number = n; action = action; access_lists = []; prefix_lists = []; community_lists = []; sets = no_sets }

-- names, as the line of this number mentions them
abbrev pub mentions : List (List ℕ) → ℕ → List Mention
mentions names line = map (λ name. record { name = name; line = line }) names

-- the entry with these names behind the others of their opening
abbrev pub with_mentions : MapEntry → MatchKind → List Mention → MapEntry
with_mentions e AccessList more = record e { access_lists = e.access_lists ++ more }
with_mentions e PrefixList more = record e { prefix_lists = e.prefix_lists ++ more }
with_mentions e CommunityList more = record e { community_lists = e.community_lists ++ more }

-- the entry after one more line
abbrev pub entry_with : MapEntry → MapLine → MapEntry
entry_with e (Match kind names line) = with_mentions e kind (mentions names line)
entry_with e (Set set) = record e { sets = with_set e.sets set }

-- the entry of a number, opened: one that is there keeps its lines, and has this action
abbrev pub entry_opened : List MapEntry → ℕ → Action → MapEntry
entry_opened entries n action = record (unwrap_or (with_number number_of n entries) (fresh_entry n action)) { action = action }

-- the map in which the entry of a number is opened: anew, or again with its lines and the later action
abbrev pub opened : RouteMap → ℕ → Action → RouteMap
opened m n action = record { entries = placed number_of (entry_opened m.entries n action) m.entries }

-- the map in which the entry of a number has one more line, as it was where there is no such entry
abbrev pub with_line : RouteMap → ℕ → MapLine → RouteMap
with_line m n line = option_map_or (λ e. record { entries = placed number_of (entry_with e line) m.entries }) (with_number number_of n m.entries) m

-- the number of an entry and what it sets are in range
pub record IsLawfulEntry (e : MapEntry) : Type 0 where
  pub number : e.number ≤ 65535
  pub prepended : IsPrepended e.sets.prepended

-- entries by rising number, each lawful
pub record IsLawfulMap (m : RouteMap) : Type 0 where
  pub in_order : IsByNumber number_of m.entries
  pub entries : All IsLawfulEntry m.entries

-- a lawful line of a map: a `match` line has a name, and what a `set` line sets is in range
abbrev pub IsLawfulMapLine : MapLine → Type 0
IsLawfulMapLine (Match kind names line) = 1 ≤ length names
IsLawfulMapLine (Set set) = IsLawfulSet set
