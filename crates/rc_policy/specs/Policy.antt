-- What prefix lists, community lists and route maps do with a route (IOS `ip prefix-list`, `ip community-list` and `route-map`).
use Rattle.std.specs.Prelude.{ℕ, ◌==◌, Bool, false, ◌&&◌, ◌||◌, List, ◌++◌, Option, Some, None, length, nat_le, unwrap_or}
use Rattle.std.specs.List.{find, list_any}
use Rattle.std.specs.Option.{option_and_then, option_map_or}
use Rattle.rc_base.specs.Communities.{has_all, joined}
use Rattle.rc_base.specs.Prefix.{Cidr, contains}
use Rattle.rc_config.specs.Named.{named}
use Rattle.rc_config.specs.declared.community_list.CommunityLine.{CommunityLine}
use Rattle.rc_config.specs.declared.community_list.CommunityList.{CommunityList}
use Rattle.rc_config.specs.declared.access_list.Action.{Action}
use Rattle.rc_config.specs.declared.access_list.Action.TheVariants.{Permit, Deny}
use Rattle.rc_config.specs.declared.access_list.AccessList.{AccessList}
use Rattle.rc_config.specs.declared.access_list.AccessListLine.{AccessListLine}
use Rattle.rc_config.specs.declared.lists.Lists.{Lists}
use Rattle.rc_config.specs.declared.prefix_list.PrefixLine.{PrefixLine}
use Rattle.rc_config.specs.declared.prefix_list.PrefixList.{PrefixList}
use Rattle.rc_config.specs.declared.route_map.MapEntry.{MapEntry}
use Rattle.rc_config.specs.declared.route_map.Mention.{Mention}
use Rattle.rc_config.specs.declared.route_map.RouteMap.{RouteMap}
use Rattle.rc_config.specs.declared.router_text.RouterText.{RouterText}
use Rattle.rc_config.specs.declared.sets.CommunityChange.{CommunityChange}
use Rattle.rc_config.specs.declared.sets.CommunityChange.TheVariants.{Keep, Replace, Add}
use Rattle.rc_config.specs.declared.sets.Sets.{Sets}
use Rattle.rc_filter.specs.Verdict.{matches_address, permits}
use Rattle.rc_policy.specs.declared.attrs.Attrs.{Attrs}

-- the action of the first line that matches, else deny
abbrev pub first_permits : {L : Type 0} → (L → Action) → (L → Bool) → List L → Bool
first_permits action matches lines = option_map_or (λ l. permits (action l)) (find matches lines) false

-- ---- prefix lists

-- A length that a line takes whose own prefix has this length: that length alone without a bound, from `ge` on with `ge`, up to
-- `le` with `le`, and from `ge` to `le` with both.
abbrev pub has_length : Option ℕ → Option ℕ → ℕ → ℕ → Bool
has_length None None own len = len == own
has_length (Some ge) None own len = nat_le ge len && nat_le len 32
has_length None (Some le) own len = nat_le own len && nat_le len le
has_length (Some ge) (Some le) own len = nat_le ge len && nat_le len le

-- the first bits of a prefix are those of the line's prefix, and the line takes its length
abbrev pub matches_prefix : PrefixLine → Cidr → Bool
matches_prefix l p = contains l.prefix p.network && has_length l.ge l.le l.prefix.len p.len

-- what a prefix list permits: a line matches a prefix inside its own whose length is within its bounds
abbrev pub prefix_list_permits : PrefixList → Cidr → Bool
prefix_list_permits list p = first_permits (λ (l : PrefixLine). l.action) (λ l. matches_prefix l p) list.lines

-- ---- community lists (RFC 1997)

-- a line matches where the route has all of its communities
abbrev pub community_lines_permit : List CommunityLine → List ℕ → Bool
community_lines_permit lines communities = first_permits (λ (l : CommunityLine). l.action) (λ (l : CommunityLine). has_all communities l.communities) lines

-- what a community list permits: a line matches where the route has all of its communities (RFC 1997)
abbrev pub community_list_permits : CommunityList → List ℕ → Bool
community_list_permits list communities = community_lines_permit list.lines communities

-- ---- access lists, asked for an address alone: a line matches where it is one of the line's sources
-- what a standard access list permits, asked for an address as the source
abbrev pub access_list_permits : AccessList → ℕ → Bool
access_list_permits f addr = first_permits (λ (l : AccessListLine). l.action) (λ (l : AccessListLine). matches_address l.source addr) f.lines

-- ---- route maps

-- a list of this name is there and permits
abbrev pub is_permitted : {L : Type 0} → List (List ℕ × L) → (L → Bool) → List ℕ → Bool
is_permitted lists permits_route name = option_map_or permits_route (named lists name) false

-- one of the lists so named is there and permits
abbrev pub some_permits : {L : Type 0} → List (List ℕ × L) → (L → Bool) → List Mention → Bool
some_permits lists permits_route names = list_any (λ (m : Mention). is_permitted lists permits_route m.name) names

-- the condition of what the `match` lines of one opening name: they name nothing, or one of the lists permits
abbrev pub condition_holds : {L : Type 0} → List (List ℕ × L) → (L → Bool) → List Mention → Bool
condition_holds lists permits_route names = length names == 0 || some_permits lists permits_route names

-- an entry matches where each of its conditions holds
abbrev pub matches_entry : Lists → Attrs → MapEntry → Bool
matches_entry lists a e =
    condition_holds lists.access_lists (λ f. access_list_permits f a.prefix.network) e.access_lists
    && condition_holds lists.prefix_lists (λ l. prefix_list_permits l a.prefix) e.prefix_lists
    && condition_holds lists.community_lists (λ l. community_list_permits l a.communities) e.community_lists

-- communities stay, or others stand in their place, or are joined to them
abbrev pub communities_after : CommunityChange → List ℕ → List ℕ
communities_after Keep communities = communities
communities_after (Replace others) communities = others
communities_after (Add others) communities = joined communities others

-- a route with what an entry sets: values in place of its own, and numbers before its AS path in their order
abbrev pub with_sets : Sets → Attrs → Attrs
with_sets s a = record {
  prefix = a.prefix;
  metric = unwrap_or s.metric a.metric;
  metric_type = unwrap_or s.metric_type a.metric_type;
  local_preference = unwrap_or s.local_preference a.local_preference;
  weight = unwrap_or s.weight a.weight;
  origin = unwrap_or s.origin a.origin;
  as_path = s.prepended ++ a.as_path;
  communities = communities_after s.communities a.communities;
}

-- what the entry that decides makes of a route
abbrev pub decided : Action → Sets → Attrs → Option Attrs
decided Permit s a = Some (with_sets s a)
decided Deny s a = None

-- what a route map makes of a route: the first entry that matches decides, by rising number, and the end rejects
abbrev pub route_map : Lists → RouteMap → Attrs → Option Attrs
route_map lists map a = option_and_then (λ (e : MapEntry). decided e.action e.sets a) (find (matches_entry lists a) map.entries)

-- what the route map of a file that is named makes of attributes: without a name they stay as they are, and a map that isn't there rejects
abbrev pub mapped : RouterText → Option Mention → Attrs → Option Attrs
mapped file None a = Some a
mapped file (Some map) a = option_and_then (λ (m : RouteMap). route_map file.lists m a) (named file.route_maps map.name)
