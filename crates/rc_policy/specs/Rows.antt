-- Worked cases of prefix lists, community lists and route maps, each by computation.
use Rattle.std.specs.Prelude.{◌≡◌, ℕ, ◌+◌, ◌*◌, true, false, List, [], ◌∷◌, fold, Option, Some, None, codes, refl}
use Rattle.rc_base.specs.Communities.{community_set}
use Rattle.rc_base.specs.Prefix.{Cidr, prefix_at}
use Rattle.rc_base.specs.declared.origin.Origin.TheVariants.{Igp, Incomplete}
use Rattle.rc_config.specs.AccessList.{host_address, standard_line}
use Rattle.rc_config.specs.PrefixList.{no_lines, with_line}
use Rattle.rc_config.specs.RouteMap.{fresh_entry, opened, no_entries, with_line as with_map_line}
use Rattle.rc_config.specs.Sets.{no_sets}
use Rattle.rc_config.specs.declared.community_list.CommunityLine.{CommunityLine}
use Rattle.rc_config.specs.declared.community_list.CommunityList.{CommunityList}
use Rattle.rc_config.specs.declared.access_list.Action.{Action}
use Rattle.rc_config.specs.declared.access_list.Action.TheVariants.{Permit, Deny}
use Rattle.rc_config.specs.declared.access_list.AccessList.{AccessList}
use Rattle.rc_config.specs.declared.access_list.AccessListKind.TheVariants.{Standard}
use Rattle.rc_config.specs.declared.lists.Lists.{Lists}
use Rattle.rc_config.specs.declared.map_line.MapLine.TheVariants.{Match, Set}
use Rattle.rc_config.specs.declared.map_line.MatchKind.TheVariants as kind
use Rattle.rc_config.specs.declared.map_line.SetLine.TheVariants as set
use Rattle.rc_config.specs.declared.prefix_list.PrefixLine.{PrefixLine}
use Rattle.rc_config.specs.declared.prefix_list.PrefixList.{PrefixList}
use Rattle.rc_config.specs.declared.route_map.MapEntry.{MapEntry}
use Rattle.rc_config.specs.declared.route_map.Mention.{Mention}
use Rattle.rc_config.specs.declared.route_map.RouteMap.{RouteMap}
use Rattle.rc_config.specs.declared.sets.CommunityChange.TheVariants.{Replace, Add}
use Rattle.rc_config.specs.declared.sets.MetricType.TheVariants.{Type1, Type2}
use Rattle.rc_config.specs.declared.sets.Sets.{Sets}
use Rattle.rc_filter.specs.Verdict.{same_bits}
use Rattle.rc_policy.specs.Policy.{prefix_list_permits, community_list_permits, access_list_permits, with_sets, route_map}
use Rattle.rc_policy.specs.declared.attrs.Attrs.{Attrs}

-- a.b.c.d/len
abbrev prefix : ℕ → ℕ → ℕ → ℕ → ℕ → Cidr
prefix a b c d len = prefix_at (a * 16777216 + b * 65536 + c * 256 + d) len

-- ---- prefix lists

-- a line for 10.9.0.0/16
abbrev ninth : ℕ → Action → Option ℕ → Option ℕ → PrefixLine
ninth sequence action ge le = record { sequence = sequence; action = action; prefix = prefix 10 9 0 0 16; ge = ge; le = le }

abbrev list : List PrefixLine → PrefixList
list lines = record { lines = lines }

-- the list of one line that permits
abbrev one : Option ℕ → Option ℕ → PrefixList
one ge le = list (ninth 5 Permit ge le ∷ [])

-- ge 24 le 24: the length alone that both name, under the line's first bits
pub between_permits : prefix_list_permits (one (Some 24) (Some 24)) (prefix 10 9 1 0 24) ≡ true
between_permits = refl

pub own_is_too_short : prefix_list_permits (one (Some 24) (Some 24)) (prefix 10 9 0 0 16) ≡ false
own_is_too_short = refl

pub half_is_too_long : prefix_list_permits (one (Some 24) (Some 24)) (prefix 10 9 1 128 25) ≡ false
half_is_too_long = refl

pub other_first_bits : prefix_list_permits (one (Some 24) (Some 24)) (prefix 11 9 1 0 24) ≡ false
other_first_bits = refl

-- without a bound: that length alone
pub exact : prefix_list_permits (one None None) (prefix 10 9 0 0 16) ≡ true
exact = refl

pub exact_takes_no_longer : prefix_list_permits (one None None) (prefix 10 9 1 0 24) ≡ false
exact_takes_no_longer = refl

pub exact_takes_no_shorter : prefix_list_permits (one None None) (prefix 10 0 0 0 8) ≡ false
exact_takes_no_shorter = refl

-- `ge` alone: from there to 32
pub ge_at : prefix_list_permits (one (Some 24) None) (prefix 10 9 1 0 24) ≡ true
ge_at = refl

pub ge_host : prefix_list_permits (one (Some 24) None) (prefix 10 9 1 1 32) ≡ true
ge_host = refl

pub ge_under : prefix_list_permits (one (Some 24) None) (prefix 10 9 0 0 23) ≡ false
ge_under = refl

-- `le` alone: from the own length to there
pub le_own : prefix_list_permits (one None (Some 24)) (prefix 10 9 0 0 16) ≡ true
le_own = refl

pub le_at : prefix_list_permits (one None (Some 24)) (prefix 10 9 1 0 24) ≡ true
le_at = refl

pub le_over : prefix_list_permits (one None (Some 24)) (prefix 10 9 1 0 25) ≡ false
le_over = refl

pub le_shorter : prefix_list_permits (one None (Some 24)) (prefix 10 8 0 0 15) ≡ false
le_shorter = refl

-- both: each end is taken
pub both_low : prefix_list_permits (one (Some 20) (Some 28)) (prefix 10 9 16 0 20) ≡ true
both_low = refl

pub both_high : prefix_list_permits (one (Some 20) (Some 28)) (prefix 10 9 16 0 28) ≡ true
both_high = refl

pub both_under : prefix_list_permits (one (Some 20) (Some 28)) (prefix 10 9 0 0 19) ≡ false
both_under = refl

pub both_over : prefix_list_permits (one (Some 20) (Some 28)) (prefix 10 9 16 0 29) ≡ false
both_over = refl

-- 0.0.0.0/0 le 32 takes every prefix
pub every_prefix : prefix_list_permits (list (record { sequence = 5; action = Permit; prefix = prefix 0 0 0 0 0; ge = None; le = Some 32 } ∷ [])) (prefix 192 0 2 1 32) ≡ true
every_prefix = refl

-- the first line that matches decides, a line that doesn't is passed over, and the end denies
pub first_denies : prefix_list_permits (list (ninth 5 Deny None None ∷ ninth 10 Permit None (Some 32) ∷ [])) (prefix 10 9 0 0 16) ≡ false
first_denies = refl

pub second_decides : prefix_list_permits (list (ninth 5 Deny None None ∷ ninth 10 Permit None (Some 32) ∷ [])) (prefix 10 9 1 0 24) ≡ true
second_decides = refl

pub end_denies : prefix_list_permits (list (ninth 5 Deny (Some 24) None ∷ [])) (prefix 10 9 0 0 16) ≡ false
end_denies = refl

pub no_line_denies : prefix_list_permits (list []) (prefix 10 9 0 0 16) ≡ false
no_line_denies = refl

-- lines stand by number: 5 decides before 10, which was written first
pub lower_number_decides : prefix_list_permits (with_line (with_line no_lines (ninth 10 Permit None None)) (ninth 5 Deny None None)) (prefix 10 9 0 0 16) ≡ false
lower_number_decides = refl

-- ---- community lists: 65000:1, 65000:2 and 65000:3
abbrev c1 : ℕ
c1 = 4259840001

abbrev c2 : ℕ
c2 = 4259840002

abbrev c3 : ℕ
c3 = 4259840003

abbrev permit : List ℕ → CommunityLine
permit numbers = record { action = Permit; communities = numbers }

abbrev deny : List ℕ → CommunityLine
deny numbers = record { action = Deny; communities = numbers }

abbrev communities : List CommunityLine → CommunityList
communities lines = record { lines = lines }

-- a route has all communities of a line that matches, and may have more
pub has_it : community_list_permits (communities (permit (c1 ∷ []) ∷ [])) (c1 ∷ c3 ∷ []) ≡ true
has_it = refl

pub has_all_of_them : community_list_permits (communities (permit (c1 ∷ c2 ∷ []) ∷ [])) (c1 ∷ c2 ∷ c3 ∷ []) ≡ true
has_all_of_them = refl

pub one_does_not_suffice : community_list_permits (communities (permit (c1 ∷ c2 ∷ []) ∷ [])) (c1 ∷ c3 ∷ []) ≡ false
one_does_not_suffice = refl

-- two lines are two ways to match
pub either_line : community_list_permits (communities (permit (c1 ∷ []) ∷ permit (c2 ∷ []) ∷ [])) (c2 ∷ []) ≡ true
either_line = refl

pub first_line_decides : community_list_permits (communities (deny (c1 ∷ []) ∷ permit (c2 ∷ []) ∷ [])) (c1 ∷ c2 ∷ []) ≡ false
first_line_decides = refl

pub end_of_communities_denies : community_list_permits (communities (deny (c1 ∷ []) ∷ [])) (c2 ∷ []) ≡ false
end_of_communities_denies = refl

pub no_communities : community_list_permits (communities (permit (c1 ∷ []) ∷ [])) [] ≡ false
no_communities = refl

-- ---- access lists, asked for the network address alone

-- access-list 5 deny 10.9.1.0, access-list 5 permit 10.9.0.0 0.0.255.255
abbrev fifth : AccessList
fifth = record {
  kind = Standard;
  lines = standard_line 10 Deny (host_address (10 * 16777216 + 9 * 65536 + 256))
      ∷ standard_line 20 Permit (record { addr = 10 * 16777216 + 9 * 65536; wildcard = 65535 })
      ∷ [];
}

pub wildcard_permits : access_list_permits fifth (10 * 16777216 + 9 * 65536 + 512) ≡ true
unfolding same_bits
wildcard_permits = refl

pub first_source_denies : access_list_permits fifth (10 * 16777216 + 9 * 65536 + 256) ≡ false
unfolding same_bits
first_source_denies = refl

pub end_of_sources_denies : access_list_permits fifth (11 * 16777216) ≡ false
unfolding same_bits
end_of_sources_denies = refl

-- ---- route maps

-- the lists of a router: access list 5; prefix lists ninth and none; community lists 7, both and none
abbrev lists : Lists
lists = record {
  access_lists = (codes "5", fifth) ∷ [];
  prefix_lists = (codes "NINTH", one (Some 24) (Some 24)) ∷ (codes "NONE", list []) ∷ [];
  community_lists = (codes "7", communities (permit (c1 ∷ []) ∷ [])) ∷ (codes "NONE", communities []) ∷ [];
}

-- 10.9.1.0/24 on AS path 65003 with the community 65000:1
abbrev route : Attrs
route = record {
  prefix = prefix 10 9 1 0 24;
  metric = 7;
  metric_type = Type2;
  local_preference = 100;
  weight = 0;
  origin = Igp;
  as_path = 65003 ∷ [];
  communities = c1 ∷ [];
}

abbrev plain : Attrs
plain = record route { communities = [] }

abbrev map_of : List MapEntry → RouteMap
map_of entries = record { entries = entries }

abbrev named : List ℕ → Mention
named name = record { name = name; line = 3 }

-- match community 7, set community 65000:2 additive, set as-path prepend 65001 65001
abbrev additive : MapEntry
additive = record (fresh_entry 10 Permit) { community_lists = named (codes "7") ∷ []; sets = record no_sets { communities = Add (c2 ∷ []); prepended = 65001 ∷ 65001 ∷ [] } }

pub joined_and_prepended : route_map lists (map_of (additive ∷ [])) route ≡ Some (record route { as_path = 65001 ∷ 65001 ∷ 65003 ∷ []; communities = c1 ∷ c2 ∷ [] })
joined_and_prepended = refl

pub without_the_community : route_map lists (map_of (additive ∷ [])) plain ≡ None
without_the_community = refl

-- an entry without `match` lines matches every route
pub all_match : route_map lists (map_of (fresh_entry 10 Permit ∷ [])) plain ≡ Some plain
all_match = refl

-- the end rejects
pub no_entry : route_map lists (map_of []) route ≡ None
no_entry = refl

-- a map of one entry, which permits where its `match` lines say so
abbrev if_matching : List Mention → List Mention → List Mention → RouteMap
if_matching access prefixes community = map_of (record (fresh_entry 10 Permit) { access_lists = access; prefix_lists = prefixes; community_lists = community } ∷ [])

-- a route map matches by the network address, and not by the length
pub by_address : route_map lists (if_matching (named (codes "5") ∷ []) [] []) (record route { prefix = prefix 10 9 2 0 24 }) ≡ Some (record route { prefix = prefix 10 9 2 0 24 })
unfolding same_bits
by_address = refl

pub by_address_denied : route_map lists (if_matching (named (codes "5") ∷ []) [] []) route ≡ None
unfolding same_bits
by_address_denied = refl

pub by_prefix_list : route_map lists (if_matching [] (named (codes "NINTH") ∷ []) []) route ≡ Some route
by_prefix_list = refl

pub by_prefix_list_denied : route_map lists (if_matching [] (named (codes "NINTH") ∷ []) []) (record route { prefix = prefix 10 9 0 0 16 }) ≡ None
by_prefix_list_denied = refl

-- two openings are two conditions, and both must hold
pub both_hold : route_map lists (if_matching [] (named (codes "NINTH") ∷ []) (named (codes "7") ∷ [])) route ≡ Some route
both_hold = refl

pub prefix_alone_holds : route_map lists (if_matching [] (named (codes "NINTH") ∷ []) (named (codes "7") ∷ [])) plain ≡ None
prefix_alone_holds = refl

pub community_alone_holds : route_map lists (if_matching [] (named (codes "NINTH") ∷ []) (named (codes "7") ∷ [])) (record route { prefix = prefix 10 9 0 0 16 }) ≡ None
community_alone_holds = refl

pub address_and_prefix_list : route_map lists (if_matching (named (codes "5") ∷ []) (named (codes "NINTH") ∷ []) []) route ≡ None
unfolding same_bits
address_and_prefix_list = refl

-- the names of one opening are one condition, for which one suffices, on one line or on two
pub one_name_suffices : route_map lists (if_matching [] (named (codes "NONE") ∷ named (codes "NINTH") ∷ []) []) route ≡ Some route
one_name_suffices = refl

-- a list without lines matches nothing, and neither does a name that isn't there
pub empty_prefix_list : route_map lists (if_matching [] (named (codes "NONE") ∷ []) []) route ≡ None
empty_prefix_list = refl

pub empty_community_list : route_map lists (if_matching [] [] (named (codes "NONE") ∷ [])) route ≡ None
empty_community_list = refl

pub missing_prefix_list : route_map lists (if_matching [] (named (codes "OTHER") ∷ []) []) route ≡ None
missing_prefix_list = refl

pub missing_community_list : route_map lists (if_matching [] [] (named (codes "8") ∷ [])) route ≡ None
missing_community_list = refl

pub missing_access_list : route_map lists (if_matching (named (codes "6") ∷ []) [] []) route ≡ None
missing_access_list = refl

-- names of one kind are none of another
pub names_by_kind : route_map lists (if_matching (named (codes "7") ∷ []) [] []) route ≡ None
names_by_kind = refl

-- what an entry sets in all
abbrev all_sets : Sets
all_sets = record {
  local_preference = Some 200;
  metric = Some 5;
  metric_type = Some Type1;
  weight = Some 40;
  origin = Some Incomplete;
  communities = Replace (c3 ∷ []);
  prepended = 65001 ∷ 65002 ∷ [];
}

abbrev setting : ℕ → Action → MapEntry
setting n action = record (fresh_entry n action) { sets = all_sets }

pub all_are_set : route_map lists (map_of (setting 10 Permit ∷ [])) route
    ≡ Some (record {
      prefix = prefix 10 9 1 0 24;
      metric = 5;
      metric_type = Type1;
      local_preference = 200;
      weight = 40;
      origin = Incomplete;
      as_path = 65001 ∷ 65002 ∷ 65003 ∷ [];
      communities = c3 ∷ [];
    })
all_are_set = refl

-- each set alone, the others as they were
pub local_preference_alone : with_sets (record no_sets { local_preference = Some 200 }) route ≡ record route { local_preference = 200 }
local_preference_alone = refl

pub metric_alone : with_sets (record no_sets { metric = Some 0 }) route ≡ record route { metric = 0 }
metric_alone = refl

pub metric_type_alone : with_sets (record no_sets { metric_type = Some Type1 }) route ≡ record route { metric_type = Type1 }
metric_type_alone = refl

pub weight_alone : with_sets (record no_sets { weight = Some 65535 }) route ≡ record route { weight = 65535 }
weight_alone = refl

pub origin_alone : with_sets (record no_sets { origin = Some Incomplete }) route ≡ record route { origin = Incomplete }
origin_alone = refl

-- `additive` joins, each once, and else they stand in place of the route's
pub joined : with_sets (record no_sets { communities = Add (c1 ∷ c3 ∷ []) }) (record route { communities = c1 ∷ c2 ∷ [] }) ≡ record route { communities = c1 ∷ c2 ∷ c3 ∷ [] }
joined = refl

pub replaced : with_sets (record no_sets { communities = Replace (c3 ∷ []) }) route ≡ record route { communities = c3 ∷ [] }
replaced = refl

pub joined_to_none : with_sets (record no_sets { communities = Add (c2 ∷ []) }) plain ≡ record route { communities = c2 ∷ [] }
joined_to_none = refl

-- numbers come before an AS path in the order written
pub before_a_path : with_sets (record no_sets { prepended = 65001 ∷ 65002 ∷ [] }) route ≡ record route { as_path = 65001 ∷ 65002 ∷ 65003 ∷ [] }
before_a_path = refl

pub before_no_path : with_sets (record no_sets { prepended = 65001 ∷ 65002 ∷ [] }) (record route { as_path = [] }) ≡ record route { as_path = 65001 ∷ 65002 ∷ [] }
before_no_path = refl

pub nothing_set : with_sets no_sets route ≡ route
nothing_set = refl

-- an entry that denies rejects, whatever it sets, and one behind it isn't asked
pub denies_with_sets : route_map lists (map_of (setting 10 Deny ∷ fresh_entry 20 Permit ∷ [])) route ≡ None
denies_with_sets = refl

-- the first entry that matches decides alone: the sets of a later one aren't applied
pub first_entry_decides : route_map lists (map_of (fresh_entry 10 Permit ∷ setting 20 Permit ∷ [])) route ≡ Some route
first_entry_decides = refl

-- one that doesn't match is passed over, and its sets with it
pub second_entry_decides : route_map lists (map_of (additive ∷ fresh_entry 20 Permit ∷ [])) plain ≡ Some plain
second_entry_decides = refl

-- entries stand by number: 5, which was written last, decides
pub lower_entry_decides : route_map lists (opened (opened no_entries 10 Permit) 5 Deny) route ≡ None
lower_entry_decides = refl

-- a list that denies doesn't reject: the entry only fails to match
pub denied_by_a_list : route_map lists (map_of (record (fresh_entry 10 Permit) { access_lists = named (codes "5") ∷ [] } ∷ fresh_entry 20 Permit ∷ [])) route ≡ Some route
unfolding same_bits
denied_by_a_list = refl

-- and an entry that denies what a list permits rejects it
pub deny_what_is_permitted : route_map lists (map_of (record (fresh_entry 10 Deny) { prefix_lists = named (codes "NINTH") ∷ [] } ∷ fresh_entry 20 Permit ∷ [])) route ≡ None
deny_what_is_permitted = refl

-- ---- as a file puts them together

-- the communities of a line, and of a route, are sets: their order counts for nothing
pub in_any_order : community_list_permits (communities (permit (community_set (c2 ∷ c1 ∷ [])) ∷ [])) (community_set (c1 ∷ c2 ∷ 5 ∷ [])) ≡ true
in_any_order = refl

pub one_of_two : community_list_permits (communities (permit (community_set (c2 ∷ c1 ∷ [])) ∷ [])) (community_set (c1 ∷ 5 ∷ [])) ≡ false
one_of_two = refl

-- access-list 5 permit 10.9.0.0 0.0.255.255, alone
abbrev by_source : AccessList
by_source = record { kind = Standard; lines = standard_line 10 Permit (record { addr = 10 * 16777216 + 9 * 65536; wildcard = 65535 }) ∷ [] }

pub source_permits : access_list_permits by_source (10 * 16777216 + 9 * 65536 + 256) ≡ true
unfolding same_bits
source_permits = refl

pub other_source : access_list_permits by_source (10 * 16777216 + 10 * 65536 + 256) ≡ false
unfolding same_bits
other_source = refl

-- route-map M permit 10, and its three lines
abbrev joining : RouteMap
joining = fold (λ m l. with_map_line m 10 l) (opened no_entries 10 Permit) (Match kind.CommunityList (codes "7" ∷ []) 2 ∷ Set (set.Communities (c2 ∷ []) true) ∷ Set (set.Prepend (65001 ∷ 65001 ∷ [])) ∷ [])

pub lines_join_and_prepend : route_map lists joining route ≡ Some (record route { as_path = 65001 ∷ 65001 ∷ 65003 ∷ []; communities = c1 ∷ c2 ∷ [] })
lines_join_and_prepend = refl

pub lines_reject : route_map lists joining plain ≡ None
lines_reject = refl
