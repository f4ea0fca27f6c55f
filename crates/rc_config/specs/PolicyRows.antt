-- Worked cases of prefix lists and route maps as their lines make them, each by computation.
use Rattle.std.specs.Prelude.{◌≡◌, ℕ, ◌*◌, true, false, List, [], ◌∷◌, fold, Some, None, codes, refl}
use Rattle.rc_base.specs.Prefix.{prefix_at}
use Rattle.rc_base.specs.declared.origin.Origin.TheVariants.{Incomplete}
use Rattle.rc_config.specs.PrefixList as prefixes
use Rattle.rc_config.specs.RouteMap.{fresh_entry, no_entries, opened, with_line}
use Rattle.rc_config.specs.Sets.{no_sets, with_set}
use Rattle.rc_config.specs.declared.access_list.Action.TheVariants.{Permit, Deny}
use Rattle.rc_config.specs.declared.map_line.MapLine.{MapLine}
use Rattle.rc_config.specs.declared.map_line.MapLine.TheVariants.{Match, Set}
use Rattle.rc_config.specs.declared.map_line.MatchKind.{MatchKind}
use Rattle.rc_config.specs.declared.map_line.MatchKind.TheVariants.{AccessList, PrefixList, CommunityList}
use Rattle.rc_config.specs.declared.map_line.SetLine.TheVariants.{LocalPreference, Metric, MetricType, Weight, Origin, Communities, Prepend}
use Rattle.rc_config.specs.declared.prefix_list.PrefixLine.{PrefixLine}
use Rattle.rc_config.specs.declared.route_map.MapEntry.{MapEntry}
use Rattle.rc_config.specs.declared.route_map.RouteMap.{RouteMap}
use Rattle.rc_config.specs.declared.route_map.Mention.{Mention}
use Rattle.rc_config.specs.declared.sets.CommunityChange.TheVariants.{Replace, Add}
use Rattle.rc_config.specs.declared.sets.MetricType.TheVariants.{Type1}

-- ---- prefix lists stand by number
abbrev line : ℕ → PrefixLine
line n = record { sequence = n; action = Permit; prefix = prefix_at (10 * 16777216) 8; ge = None; le = Some 24 }

pub prefixes_by_number : (fold prefixes.with_line prefixes.no_lines (line 20 ∷ line 5 ∷ line 10 ∷ [])).lines ≡ line 5 ∷ line 10 ∷ line 20 ∷ []
prefixes_by_number = refl

-- the greatest number, above which the next line stands that gives none
pub greatest_prefix : prefixes.greatest_sequence (fold prefixes.with_line prefixes.no_lines (line 20 ∷ line 5 ∷ [])).lines ≡ Some 20
greatest_prefix = refl

pub number_taken : prefixes.has_sequence (line 5 ∷ line 20 ∷ []) 20 ≡ true
number_taken = refl

pub number_free : prefixes.has_sequence (line 5 ∷ line 20 ∷ []) 10 ≡ false
number_free = refl

-- ---- entries of a route map
abbrev entry : ℕ → MapEntry
entry n = fresh_entry n Permit

abbrev map_of : List MapEntry → RouteMap
map_of entries = record { entries = entries }

pub entries_by_number : opened (opened (opened no_entries 20 Permit) 10 Permit) 15 Permit ≡ map_of (entry 10 ∷ entry 15 ∷ entry 20 ∷ [])
entries_by_number = refl

abbrev names : MatchKind → List ℕ → ℕ → MapLine
names kind name line = Match kind (name ∷ []) line

abbrev at : List ℕ → ℕ → Mention
at name line = record { name = name; line = line }

-- a known number is opened again with the later action, and keeps its lines
pub opened_again : opened (with_line (with_line (opened no_entries 10 Permit) 10 (names CommunityList (codes "7") 2)) 10 (Set (Metric 5))) 10 Deny
    ≡ map_of (record (fresh_entry 10 Deny) { community_lists = at (codes "7") 2 ∷ []; sets = record no_sets { metric = Some 5 } } ∷ [])
opened_again = refl

-- a line goes to the entry of its number, and leaves the others
pub own_entry : with_line (map_of (entry 10 ∷ entry 20 ∷ [])) 20 (names PrefixList (codes "P") 4) ≡ map_of (entry 10 ∷ record (entry 20) { prefix_lists = at (codes "P") 4 ∷ [] } ∷ [])
own_entry = refl

pub no_such_entry : with_line (map_of (entry 10 ∷ [])) 20 (Set (Metric 5)) ≡ map_of (entry 10 ∷ [])
no_such_entry = refl

-- the names of one opening stand one behind the other with the numbers of their lines, those of another by themselves
pub names_of_openings : fold (λ m l. with_line m 10 l) (map_of (entry 10 ∷ [])) (Match PrefixList (codes "P" ∷ codes "Q" ∷ []) 2 ∷ names AccessList (codes "5") 3 ∷ names PrefixList (codes "P") 4 ∷ [])
    ≡ map_of (record (entry 10) { access_lists = at (codes "5") 3 ∷ []; prefix_lists = at (codes "P") 2 ∷ at (codes "Q") 2 ∷ at (codes "P") 4 ∷ [] } ∷ [])
names_of_openings = refl

-- ---- a later `set` of one opening counts alone
pub later_metric : with_set (with_set no_sets (Metric 5)) (Metric 6) ≡ record no_sets { metric = Some 6 }
later_metric = refl

pub later_communities : with_set (with_set no_sets (Communities (1 ∷ []) true)) (Communities (2 ∷ []) false) ≡ record no_sets { communities = Replace (2 ∷ []) }
later_communities = refl

pub later_additive : with_set (with_set no_sets (Communities (1 ∷ []) false)) (Communities (2 ∷ []) true) ≡ record no_sets { communities = Add (2 ∷ []) }
later_additive = refl

pub later_prepend : with_set (with_set no_sets (Prepend (1 ∷ 2 ∷ []))) (Prepend (3 ∷ [])) ≡ record no_sets { prepended = 3 ∷ [] }
later_prepend = refl

-- and those of other openings stay
pub all_openings : fold with_set no_sets (LocalPreference 200 ∷ Metric 5 ∷ MetricType Type1 ∷ Weight 40 ∷ Origin Incomplete ∷ Communities (1 ∷ []) true ∷ Prepend (3 ∷ []) ∷ [])
    ≡ record { local_preference = Some 200; metric = Some 5; metric_type = Some Type1; weight = Some 40; origin = Some Incomplete; communities = Add (1 ∷ []); prepended = 3 ∷ [] }
all_openings = refl
