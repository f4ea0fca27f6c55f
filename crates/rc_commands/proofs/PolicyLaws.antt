-- Prefix lists and route maps that stay lawful.
use Rattle.std.proofs.Common.{◌≡◌, ◌==◌, ℕ, ◌≤◌, Bool, true, false, cond, List, [], ◌∷◌, Option, Some, None, Result, Ok, Err, IfOk, refl, sym, ap, ◌∙◌, subst, arith}
use Rattle.std.specs.Prelude.{All, IfSome, unwrap_or}
use Rattle.std.specs.Option.{option_map_or}
use Rattle.std.proofs.lemmas.List.Elements.{All-nil, All-head, All-tail}
use Rattle.std.specs.declared.alloc.AllocError.{AllocError}
use Rattle.rc_config.specs.ByNumber.{placed, with_number, without_number, IsByNumber}
use Rattle.rc_config.specs.PrefixList.{sequence_of, with_line as list_with, IsLawfulLine, IsLawfulList}
use Rattle.rc_config.specs.RouteMap.{number_of, fresh_entry, entry_opened, entry_with, with_mentions, mentions, opened, with_line, IsLawfulEntry, IsLawfulMap, IsLawfulMapLine}
use Rattle.rc_config.specs.Sets.{with_set, IsLawfulSet, IsPrepended}
use Rattle.rc_config.specs.declared.access_list.Action.{Action}
use Rattle.rc_config.specs.declared.map_line.MapLine.{MapLine}
use Rattle.rc_config.specs.declared.map_line.MapLine.TheVariants.{Match, Set}
use Rattle.rc_config.specs.declared.map_line.MatchKind.{MatchKind}
use Rattle.rc_config.specs.declared.map_line.MatchKind.TheVariants.{AccessList, PrefixList, CommunityList}
use Rattle.rc_config.specs.declared.map_line.SetLine.{SetLine}
use Rattle.rc_config.specs.declared.map_line.SetLine.TheVariants.{LocalPreference, Metric, MetricType, Weight, Origin, Communities, Prepend}
use Rattle.rc_config.specs.declared.prefix_list.PrefixLine.{PrefixLine}
use Rattle.rc_config.specs.declared.prefix_list.PrefixList.{PrefixList as Known}
use Rattle.rc_config.specs.declared.route_map.MapEntry.{MapEntry}
use Rattle.rc_config.specs.declared.route_map.Mention.{Mention}
use Rattle.rc_config.specs.declared.route_map.RouteMap.{RouteMap}
use Rattle.rc_config.specs.declared.sets.Sets.{Sets}
use Rattle.rc_commands.proofs.PlacedLaws.{found_number, none_taken, placed-All, placed_in_order, placed_over}

-- ---- prefix lists
pub line_lawful : (p : Known) (l : PrefixLine) → IsLawfulList p → IsLawfulLine l → IsLawfulList (list_with p l)
line_lawful p l h line = record { in_order = placed_in_order sequence_of l p.lines h.in_order; lines = placed-All sequence_of IsLawfulLine l p.lines line h.lines }

-- ---- route maps
found-lawful : (n : ℕ) (es : List MapEntry) → All IsLawfulEntry es → IfSome (with_number number_of n es) IsLawfulEntry
found-lawful n [] h = tt
found-lawful n (e ∷ es) h = by (e.number == n) (found-lawful n es (All-tail IsLawfulEntry e es h))
  where
    by : (b : Bool) → IfSome (with_number number_of n es) IsLawfulEntry → IfSome (cond b (Some e) (with_number number_of n es)) IsLawfulEntry
    by true rest = All-head IsLawfulEntry e es h
    by false rest = rest

put-lawful : (m : RouteMap) (e : MapEntry) → IsLawfulMap m → IsLawfulEntry e → IsLawfulMap (record { entries = placed number_of e m.entries })
put-lawful m e h lawful = record { in_order = placed_in_order number_of e m.entries h.in_order; entries = placed-All number_of IsLawfulEntry e m.entries lawful h.entries }

fresh-lawful : (n : ℕ) (action : Action) → n ≤ 65535 → IsLawfulEntry (fresh_entry n action)
fresh-lawful n action within = record { number = within; prepended = record { few = omega arith; each = All-nil (λ n. 1 ≤ n) } }

opened-lawful : (o : Option MapEntry) (n : ℕ) (action : Action) → n ≤ 65535 → IfSome o IsLawfulEntry → IsLawfulEntry (record (unwrap_or o (fresh_entry n action)) { action = action })
opened-lawful None n action within h = fresh-lawful n action within
opened-lawful (Some e) n action within h = record { number = h.number; prepended = h.prepended }

-- an entry that is opened keeps its number, and replaces the one that was taken out
pub opened-number : (o : Option MapEntry) (n : ℕ) (action : Action) → ((e : MapEntry) → o ≡ Some e → e.number ≡ n) → (unwrap_or o (fresh_entry n action)).number ≡ n
opened-number None n action found = refl
opened-number (Some e) n action found = found e refl

pub opened_over : (m : RouteMap) (n : ℕ) (action : Action) (e : MapEntry) → e ≡ entry_opened m.entries n action → IsByNumber number_of m.entries
    → placed number_of e (without_number number_of n m.entries) ≡ (opened m n action).entries
opened_over m n action e is o =
    let own : (entry_opened m.entries n action).number ≡ n = opened-number (with_number number_of n m.entries) n action (found_number number_of n m.entries) in
    ap (λ x. placed number_of x (without_number number_of n m.entries)) is
    ∙ ap (λ k. placed number_of (entry_opened m.entries n action) (without_number number_of k m.entries)) (sym own)
    ∙ placed_over number_of (entry_opened m.entries n action) m.entries o

-- an entry that is opened, anew or again
pub opened_lawful : (m : RouteMap) (n : ℕ) (action : Action) → IsLawfulMap m → n ≤ 65535 → IsLawfulMap (opened m n action)
opened_lawful m n action h within = put-lawful m _ h (opened-lawful (with_number number_of n m.entries) n action within (found-lawful n m.entries h.entries))

mentioned-lawful : (e : MapEntry) (kind : MatchKind) (more : List Mention) → IsLawfulEntry e → IsLawfulEntry (with_mentions e kind more)
mentioned-lawful e AccessList more h = record { number = h.number; prepended = h.prepended }
mentioned-lawful e PrefixList more h = record { number = h.number; prepended = h.prepended }
mentioned-lawful e CommunityList more h = record { number = h.number; prepended = h.prepended }

set-lawful : (s : Sets) (line : SetLine) → IsPrepended s.prepended → IsLawfulSet line → IsPrepended (with_set s line).prepended
set-lawful s (LocalPreference n) h k = h
set-lawful s (Metric n) h k = h
set-lawful s (MetricType type) h k = h
set-lawful s (Weight n) h k = h
set-lawful s (Origin origin) h k = h
set-lawful s (Communities numbers additive) h k = h
set-lawful s (Prepend numbers) h k = k.1

entry-lawful : (e : MapEntry) (line : MapLine) → IsLawfulEntry e → IsLawfulMapLine line → IsLawfulEntry (entry_with e line)
entry-lawful e (Match kind names line) h k = mentioned-lawful e kind (mentions names line) h
entry-lawful e (Set line) h k = record { number = h.number; prepended = set-lawful e.sets line h.prepended k }

pub entry-number : (e : MapEntry) (line : MapLine) → (entry_with e line).number ≡ e.number
entry-number e (Match AccessList names line) = refl
entry-number e (Match PrefixList names line) = refl
entry-number e (Match CommunityList names line) = refl
entry-number e (Set line) = refl

-- an entry with one more line replaces the one that was taken out
pub lined_over : (m : RouteMap) (n : ℕ) (line : MapLine) (e made : MapEntry) → with_number number_of n m.entries ≡ Some e → made ≡ entry_with e line → IsByNumber number_of m.entries
    → placed number_of made (without_number number_of n m.entries) ≡ (with_line m n line).entries
lined_over m n line e made found is o =
    let own : (entry_with e line).number ≡ n = entry-number e line ∙ found_number number_of n m.entries e found in
    ap (λ x. placed number_of x (without_number number_of n m.entries)) is
    ∙ ap (λ k. placed number_of (entry_with e line) (without_number number_of k m.entries)) (sym own)
    ∙ placed_over number_of (entry_with e line) m.entries o
    ∙ sym (ap (λ found'. (option_map_or (λ x. record { entries = placed number_of (entry_with x line) m.entries }) found' m).entries) found)

-- and nothing changes where there is none
pub none_lined : (m : RouteMap) (n : ℕ) (line : MapLine) → with_number number_of n m.entries ≡ None → without_number number_of n m.entries ≡ (with_line m n line).entries
none_lined m n line none =
    none_taken number_of n m.entries none ∙ sym (ap (λ found. (option_map_or (λ x. record { entries = placed number_of (entry_with x line) m.entries }) found m).entries) none)

lined-lawful : (m : RouteMap) (o : Option MapEntry) (line : MapLine) → IsLawfulMap m → IfSome o IsLawfulEntry → IsLawfulMapLine line
    → IsLawfulMap (option_map_or (λ e. record { entries = placed number_of (entry_with e line) m.entries }) o m)
lined-lawful m None line h e k = h
lined-lawful m (Some e) line h lawful k = put-lawful m (entry_with e line) h (entry-lawful e line lawful k)

-- an entry with one more line
pub map_line_lawful : (m : RouteMap) (n : ℕ) (line : MapLine) → IsLawfulMap m → IsLawfulMapLine line → IsLawfulMap (with_line m n line)
map_line_lawful m n line h k = lined-lawful m (with_number number_of n m.entries) line h (found-lawful n m.entries h.entries) k

-- ---- what a call gives that makes just this, or runs out of memory
pub list-lawful : (result : Result Known AllocError) (p : Known) (l : PrefixLine) → IfOk result (λ q. q ≡ list_with p l) → IfOk result (λ q. IsLawfulList p → IsLawfulLine l → IsLawfulList q)
list-lawful (Ok q) p l e = λ h k. subst IsLawfulList (sym e) (line_lawful p l h k)
list-lawful (Err x) p l e = e

pub map-opened : (result : Result RouteMap AllocError) (m : RouteMap) (n : ℕ) (action : Action) → IfOk result (λ r. r ≡ opened m n action) → IfOk result (λ r. IsLawfulMap m → n ≤ 65535 → IsLawfulMap r)
map-opened (Ok r) m n action e = λ h k. subst IsLawfulMap (sym e) (opened_lawful m n action h k)
map-opened (Err x) m n action e = e

pub map-lined : (result : Result RouteMap AllocError) (m : RouteMap) (n : ℕ) (line : MapLine) → IfOk result (λ r. r ≡ with_line m n line)
    → IfOk result (λ r. IsLawfulMap m → IsLawfulMapLine line → IsLawfulMap r)
map-lined (Ok r) m n line e = λ h k. subst IsLawfulMap (sym e) (map_line_lawful m n line h k)
map-lined (Err x) m n line e = e
