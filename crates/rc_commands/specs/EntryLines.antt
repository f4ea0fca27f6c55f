-- Which lines in the block of an entry of a route map say what it matches and sets: what may stand several times stands in the order of its lines, and
-- of any other value the last line counts that says it.
use Rattle.std.specs.Prelude.{◌≡◌, ℕ, if◌then◌else◌, List, [], Option, Some, None, unwrap_or}
use Rattle.std.specs.List.{flat_map}
use Rattle.rc_base.specs.declared.origin.Origin.{Origin}
use Rattle.rc_config.specs.RouteMap.{mentions}
use Rattle.rc_config.specs.declared.map_line.MapLine.TheVariants as map_line
use Rattle.rc_config.specs.declared.map_line.MatchKind.TheVariants as match_kind
use Rattle.rc_config.specs.declared.map_line.SetLine.TheVariants as set_line
use Rattle.rc_config.specs.declared.route_map.MapEntry.{MapEntry}
use Rattle.rc_config.specs.declared.route_map.Mention.{Mention}
use Rattle.rc_config.specs.declared.sets.CommunityChange.{CommunityChange}
use Rattle.rc_config.specs.declared.sets.CommunityChange.TheVariants.{Keep, Replace, Add}
use Rattle.rc_config.specs.declared.sets.MetricType.{MetricType}
use Rattle.rc_commands.specs.Said.{last_said}
use Rattle.rc_config.specs.declared.map_line.MapLine.{MapLine}

-- the names of the `match` lines of each opening
abbrev pub access_lists_said : MapLine → List Mention
access_lists_said (map_line.Match match_kind.AccessList names line) = mentions names line
access_lists_said _ = []

abbrev pub prefix_lists_said : MapLine → List Mention
prefix_lists_said (map_line.Match match_kind.PrefixList names line) = mentions names line
prefix_lists_said _ = []

abbrev pub community_lists_said : MapLine → List Mention
community_lists_said (map_line.Match match_kind.CommunityList names line) = mentions names line
community_lists_said _ = []

-- `set` lines
abbrev pub local_preference_said : MapLine → Option ℕ
local_preference_said (map_line.Set (set_line.LocalPreference n)) = Some n
local_preference_said _ = None

abbrev pub metric_said : MapLine → Option ℕ
metric_said (map_line.Set (set_line.Metric n)) = Some n
metric_said _ = None

abbrev pub metric_type_said : MapLine → Option MetricType
metric_type_said (map_line.Set (set_line.MetricType type)) = Some type
metric_type_said _ = None

abbrev pub weight_said : MapLine → Option ℕ
weight_said (map_line.Set (set_line.Weight n)) = Some n
weight_said _ = None

abbrev pub origin_said : MapLine → Option Origin
origin_said (map_line.Set (set_line.Origin origin)) = Some origin
origin_said _ = None

abbrev pub communities_said : MapLine → Option CommunityChange
communities_said (map_line.Set (set_line.Communities numbers additive)) = Some (if additive then Add numbers else Replace numbers)
communities_said _ = None

abbrev pub prepended_said : MapLine → Option (List ℕ)
prepended_said (map_line.Set (set_line.Prepend numbers)) = Some numbers
prepended_said _ = None

-- what an entry says but its action, by its lines
pub record IsEntryByLines (e : MapEntry) (lines : List MapLine) : Type 0 where
  pub access_lists : e.access_lists ≡ flat_map access_lists_said lines
  pub prefix_lists : e.prefix_lists ≡ flat_map prefix_lists_said lines
  pub community_lists : e.community_lists ≡ flat_map community_lists_said lines
  pub local_preference : e.sets.local_preference ≡ last_said local_preference_said lines
  pub metric : e.sets.metric ≡ last_said metric_said lines
  pub metric_type : e.sets.metric_type ≡ last_said metric_type_said lines
  pub weight : e.sets.weight ≡ last_said weight_said lines
  pub origin : e.sets.origin ≡ last_said origin_said lines
  pub communities : e.sets.communities ≡ unwrap_or (last_said communities_said lines) Keep
  pub prepended : e.sets.prepended ≡ unwrap_or (last_said prepended_said lines) []
