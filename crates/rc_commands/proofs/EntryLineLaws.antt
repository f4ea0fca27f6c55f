-- What the lines in the block of an entry of a route map say of it: what may stand several times stands in their order, and of any other value the
-- last line counts that says it.
use Rattle.std.proofs.Common.{◌≡◌, refl, ℕ, List, ◌++◌}
use Rattle.std.specs.Prelude.{unwrap_or}
use Rattle.std.specs.List.{fold}
use Rattle.std.specs.Option.{option_or}
use Rattle.rc_commands.specs.EntryLines as said
use Rattle.rc_commands.specs.EntryLines.{IsEntryByLines}
use Rattle.rc_config.specs.RouteMap as maps
use Rattle.rc_config.specs.declared.access_list.Action.{Action}
use Rattle.rc_config.specs.declared.access_list.Action.TheVariants.{Permit}
use Rattle.rc_config.specs.declared.map_line.MapLine.{MapLine}
use Rattle.rc_config.specs.declared.map_line.MapLine.TheVariants as map_line
use Rattle.rc_config.specs.declared.map_line.MatchKind.TheVariants as match_kind
use Rattle.rc_config.specs.declared.map_line.SetLine.TheVariants as set_line
use Rattle.rc_config.specs.declared.route_map.MapEntry.{MapEntry}
use Rattle.rc_commands.proofs.SaidLaws.{last-counts, last-or-default, nothing-more, several-in-order}

access_lists-step : (e : MapEntry) (l : MapLine) → (maps.entry_with e l).access_lists ≡ e.access_lists ++ said.access_lists_said l
access_lists-step e (map_line.Match match_kind.AccessList names line) = refl
access_lists-step e l = nothing-more e.access_lists

prefix_lists-step : (e : MapEntry) (l : MapLine) → (maps.entry_with e l).prefix_lists ≡ e.prefix_lists ++ said.prefix_lists_said l
prefix_lists-step e (map_line.Match match_kind.PrefixList names line) = refl
prefix_lists-step e l = nothing-more e.prefix_lists

community_lists-step : (e : MapEntry) (l : MapLine) → (maps.entry_with e l).community_lists ≡ e.community_lists ++ said.community_lists_said l
community_lists-step e (map_line.Match match_kind.CommunityList names line) = refl
community_lists-step e l = nothing-more e.community_lists

local_preference-step : (e : MapEntry) (l : MapLine) → (maps.entry_with e l).sets.local_preference ≡ option_or (said.local_preference_said l) e.sets.local_preference
local_preference-step e (map_line.Set (set_line.LocalPreference v)) = refl
local_preference-step e (map_line.Match match_kind.AccessList names line) = refl
local_preference-step e l = refl

metric-step : (e : MapEntry) (l : MapLine) → (maps.entry_with e l).sets.metric ≡ option_or (said.metric_said l) e.sets.metric
metric-step e (map_line.Set (set_line.Metric v)) = refl
metric-step e (map_line.Match match_kind.AccessList names line) = refl
metric-step e l = refl

metric_type-step : (e : MapEntry) (l : MapLine) → (maps.entry_with e l).sets.metric_type ≡ option_or (said.metric_type_said l) e.sets.metric_type
metric_type-step e (map_line.Set (set_line.MetricType v)) = refl
metric_type-step e (map_line.Match match_kind.AccessList names line) = refl
metric_type-step e l = refl

weight-step : (e : MapEntry) (l : MapLine) → (maps.entry_with e l).sets.weight ≡ option_or (said.weight_said l) e.sets.weight
weight-step e (map_line.Set (set_line.Weight v)) = refl
weight-step e (map_line.Match match_kind.AccessList names line) = refl
weight-step e l = refl

origin-step : (e : MapEntry) (l : MapLine) → (maps.entry_with e l).sets.origin ≡ option_or (said.origin_said l) e.sets.origin
origin-step e (map_line.Set (set_line.Origin v)) = refl
origin-step e (map_line.Match match_kind.AccessList names line) = refl
origin-step e l = refl

communities-step : (e : MapEntry) (l : MapLine) → (maps.entry_with e l).sets.communities ≡ unwrap_or (said.communities_said l) e.sets.communities
communities-step e (map_line.Set (set_line.Communities numbers additive)) = refl
communities-step e (map_line.Match match_kind.AccessList names line) = refl
communities-step e l = refl

prepended-step : (e : MapEntry) (l : MapLine) → (maps.entry_with e l).sets.prepended ≡ unwrap_or (said.prepended_said l) e.sets.prepended
prepended-step e (map_line.Set (set_line.Prepend numbers)) = refl
prepended-step e (map_line.Match match_kind.AccessList names line) = refl
prepended-step e l = refl

pub entry-lines : (n : ℕ) (action : Action) (lines : List MapLine) → IsEntryByLines (fold maps.entry_with (maps.fresh_entry n action) lines) lines
entry-lines n action lines =
    let e = maps.fresh_entry n action in
    record {
      access_lists = several-in-order maps.entry_with (λ x. x.access_lists) said.access_lists_said access_lists-step lines e;
      prefix_lists = several-in-order maps.entry_with (λ x. x.prefix_lists) said.prefix_lists_said prefix_lists-step lines e;
      community_lists = several-in-order maps.entry_with (λ x. x.community_lists) said.community_lists_said community_lists-step lines e;
      local_preference = last-counts maps.entry_with (λ x. x.sets.local_preference) said.local_preference_said local_preference-step lines e;
      metric = last-counts maps.entry_with (λ x. x.sets.metric) said.metric_said metric-step lines e;
      metric_type = last-counts maps.entry_with (λ x. x.sets.metric_type) said.metric_type_said metric_type-step lines e;
      weight = last-counts maps.entry_with (λ x. x.sets.weight) said.weight_said weight-step lines e;
      origin = last-counts maps.entry_with (λ x. x.sets.origin) said.origin_said origin-step lines e;
      communities = last-or-default maps.entry_with (λ x. x.sets.communities) said.communities_said communities-step lines e;
      prepended = last-or-default maps.entry_with (λ x. x.sets.prepended) said.prepended_said prepended-step lines e;
    }

-- whatever the action of the entry is
abbrev pub unacted : MapEntry → MapEntry
unacted e = record e { action = Permit }

pub line-unacted : (e : MapEntry) (l : MapLine) → unacted (maps.entry_with e l) ≡ maps.entry_with (unacted e) l
line-unacted e (map_line.Match match_kind.AccessList names line) = refl
line-unacted e (map_line.Match match_kind.PrefixList names line) = refl
line-unacted e (map_line.Match match_kind.CommunityList names line) = refl
line-unacted e (map_line.Set set) = refl

pub any-action : (e : MapEntry) (lines : List MapLine) → IsEntryByLines (unacted e) lines → IsEntryByLines e lines
any-action e lines h = record {
  access_lists = h.access_lists;
  prefix_lists = h.prefix_lists;
  community_lists = h.community_lists;
  local_preference = h.local_preference;
  metric = h.metric;
  metric_type = h.metric_type;
  weight = h.weight;
  origin = h.origin;
  communities = h.communities;
  prepended = h.prepended;
}
