-- The static route of a prefix is what its active lines make, one after another.
use Rattle.std.proofs.Common.{refl, ◌≡◌, ap, ◌∙◌, ℕ, ◌==◌, Bool, true, false, cond, List, [], ◌∷◌, ◌++◌, map, nat_lt, Option, Some, None}
use Rattle.std.specs.Cmp.{nat_cmp_total}
use Rattle.std.specs.List.{fold, filter_map, cons_option, list_any}
use Rattle.std.specs.Option.{option_map}
use Rattle.std.specs.Ordering.{match_ordering, nat_cmp}
use Rattle.std.specs.declared.cmp.Ordering.TheVariants.{Less, Equal, Greater}
use Rattle.std.proofs.lemmas.Bool.{or_parts}
use Rattle.rc_base.specs.Lists.{in_order}
use Rattle.rc_base.specs.Prefix.{Cidr, prefix_cmp}
use Rattle.rc_config.specs.Down.{Entries}
use Rattle.rc_config.specs.declared.static_route.StaticRoute.{StaticRoute}
use Rattle.rc_config.specs.declared.static_route.Target.{Target}
use Rattle.rc_config.specs.declared.static_route.Target.TheVariants as target
use Rattle.rc_fib.specs.Entry.{Entry}
use Rattle.rc_route.specs.Ways.{Way, then_way, with_way}
use Rattle.rc_route.proofs.WayLaws.{best_is}
use Rattle.rc_base.specs.Groups.{grouped, value_of, value_at}
use Rattle.rc_rib.specs.Offers.{line_prefix, with_line, route_of_hops}
use Rattle.rc_rib.specs.Static.{active_hop, active_lines, asks_table, line_way, lines_at, static_over, static_route, static_routes}
use Rattle.rc_rib.specs.declared.active.ActiveLine.{ActiveLine}
use Rattle.rc_rib.specs.declared.grouping.StaticHops.{StaticHops}
use Rattle.rc_base.proofs.GroupLaws.{grouped_rows}

abbrev as_way : StaticHops → Way ℕ
as_way v = record { cost = v.distance; hops = v.hops }

-- one line more is one way more
with_line_is : (v : Option StaticHops) (l : ActiveLine) → as_way (with_line v l) ≡ with_way nat_cmp (option_map as_way v) (line_way l)
with_line_is None l = refl
with_line_is (Some v) l = by (nat_lt l.distance v.distance) (l.distance == v.distance)
  where
    by : (less same : Bool)
        → as_way (cond less (record { distance = l.distance; hops = l.hop ∷ [] }) (cond same (record { distance = v.distance; hops = v.hops ++ l.hop ∷ [] }) v))
        ≡ match_ordering (cond less Less (cond same Equal Greater)) (line_way l) (record { cost = v.distance; hops = v.hops ++ l.hop ∷ [] }) (as_way v)
    by true same = refl
    by false true = refl
    by false false = refl

lines_taken : (v : Option StaticHops) (ls : List ActiveLine) → option_map as_way (fold (λ w x. Some (with_line w x)) v ls) ≡ fold (then_way nat_cmp) (option_map as_way v) (map line_way ls)
lines_taken v [] = refl
lines_taken v (l ∷ ls) = lines_taken (Some (with_line v l)) ls ∙ ap (λ w. fold (then_way nat_cmp) (Some w) (map line_way ls)) (with_line_is v l)

route_of : (p : Cidr) (lines : List ActiveLine) → option_map (route_of_hops p) (value_of line_prefix with_line lines) ≡ static_route p lines
route_of p lines = over (value_of line_prefix with_line lines) ∙ ap (option_map (static_over p)) (lines_taken None lines ∙ best_is nat_cmp nat_cmp_total (map line_way lines))
  where
    over : (v : Option StaticHops) → option_map (route_of_hops p) v ≡ option_map (static_over p) (option_map as_way v)
    over None = refl
    over (Some v) = refl

each_prefix : (lines : List ActiveLine) (ps : List Cidr) → filter_map (λ p. option_map (route_of_hops p) (value_at line_prefix with_line p lines)) ps ≡ filter_map (λ p. static_route p (lines_at p lines)) ps
each_prefix lines [] = refl
each_prefix lines (p ∷ ps) =
    ap (λ o. cons_option o (filter_map (λ q. option_map (route_of_hops q) (value_at line_prefix with_line q lines)) ps)) (route_of p (lines_at p lines))
    ∙ ap (cons_option (static_route p (lines_at p lines))) (each_prefix lines ps)

-- the routes of the rows that the lines make
pub routes_of_lines : (lines : List ActiveLine) → map (λ row. route_of_hops row.0 row.1) (grouped line_prefix with_line lines) ≡ static_routes lines
unfolding static_routes
routes_of_lines lines = grouped_rows line_prefix with_line route_of_hops lines ∙ each_prefix lines (in_order prefix_cmp (map line_prefix lines))

-- a file without lines has no static route
pub no_lines : (r : ℕ) (entries : Entries) (old : List Entry) (lines : List StaticRoute) → lines ≡ [] → [] ≡ static_routes (active_lines r entries old lines)
unfolding static_routes
no_lines r entries old lines none = rw none refl

-- lines that ask no table are active alike beside every one
module _ (r : ℕ) (entries : Entries) (a b : List Entry) where
  alike : (p : Cidr) (t : Target) → asks_table t ≡ false → active_hop r entries a p t ≡ active_hop r entries b p t
  alike p target.Null none = refl
  alike p (target.Dev name) none = refl
  alike p (target.ViaDev g name) none = refl
  alike p (target.Via g) none = absurd (cc)

  pub none_asks : (lines : List StaticRoute) → list_any (λ (s : StaticRoute). asks_table s.target) lines ≡ false → active_lines r entries a lines ≡ active_lines r entries b lines
  none_asks [] none = refl
  none_asks (s ∷ ss) none =
      let parts = or_parts (asks_table s.target) (list_any (λ (t : StaticRoute). asks_table t.target) ss) none in
      let hops = alike s.prefix s.target parts.0 in
      λ i. cons_option (cond (s.distance == 255) None (option_map (λ hop. record { prefix = s.prefix; distance = s.distance; hop = hop }) (hops i))) (none_asks ss parts.1 i)
