-- The routes of a router stand in order of prefix.
use Rattle.std.proofs.Common.{refl, ◌≡◌, ap, sym, subst, ℕ, zero, suc, Bool, true, false, cond, List, [], ◌∷◌, map, Option, Some, None, arith}
use Rattle.std.specs.Prelude.{◌==◌, nat_lt}
use Rattle.std.specs.List.{filter_map, cons_option, list_any, AllByRecursion}
use Rattle.std.specs.List.Sorted.{IsStrictlySortedBy}
use Rattle.std.specs.Option.{option_map, option_or}
use Rattle.std.specs.Ordering.{is_eq, nat_cmp, ordering_then}
use Rattle.std.proofs.lemmas.Bool.Decides.{nat_tests}
use Rattle.std.proofs.lemmas.Grind.{common_steps}
use Rattle.std.specs.declared.cmp.Ordering.TheVariants.{Less, Equal, Greater}
use Rattle.rc_base.specs.Lists.{in_order}
use Rattle.rc_base.specs.Prefix.{Cidr, prefix_cmp, default_prefix, is_default}
use Rattle.rc_base.proofs.OrderedLaws.{in_order-sorted, prefix_cmp_total}
use Rattle.rc_route.specs.Tables.{IsTable}
use Rattle.rc_route.specs.declared.route.Route.{Route}
use Rattle.rc_route.specs.declared.route.Source.TheVariants.{Ospf, OspfIa}
use Rattle.rc_route.specs.Ways.{Way}
use Rattle.rc_ospf.specs.Areas.{OspfRouter, is_offered_by, summaries_of, inter}
use Rattle.rc_ospf.specs.Offered.{Offered}
use Rattle.rc_ospf.specs.Routes.{advert_prefix, offers_at, offered_row, offered_rows, default_row, with_default, internal_route_over, internal_route_to, internal_route, internal_routes}
use Rattle.rc_ospf.specs.Ways.{best_way}
use Rattle.rc_ospf.specs.declared.grouping.Row.{Row}
use Rattle.rc_ospf.specs.declared.offer.Advert.{Advert}
use Rattle.rc_ospf.specs.declared.summaries.Summaries.{Summaries}

-- what keeps the prefix keeps the order
module _ {X Y : Type 0} (px : X → Cidr) (py : Y → Cidr) (f : X → Option Y) (keeps : (x : X) (y : Y) → f x ≡ Some y → py y ≡ px x) where
  above : (k : Cidr) (xs : List X) → AllByRecursion (λ p. prefix_cmp k p ≡ Less) (map px xs) → AllByRecursion (λ p. prefix_cmp k p ≡ Less) (map py (filter_map f xs))
  above k [] all = tt
  above k (x ∷ xs) all = by (f x) refl (above k xs all.1)
    where
      by : (o : Option Y) → f x ≡ o → AllByRecursion (λ p. prefix_cmp k p ≡ Less) (map py (filter_map f xs)) → AllByRecursion (λ p. prefix_cmp k p ≡ Less) (map py (cons_option o (filter_map f xs)))
      by None is rest = rest
      by (Some y) is rest = (subst (λ p. prefix_cmp k p ≡ Less) (sym (keeps x y is)) all.0, rest)

  pub kept_order : (xs : List X) → IsStrictlySortedBy prefix_cmp (map px xs) → IsStrictlySortedBy prefix_cmp (map py (filter_map f xs))
  unfolding IsStrictlySortedBy
  kept_order [] up = tt
  kept_order (x ∷ xs) up = by (f x) refl (kept_order xs up.1)
    where
      by : (o : Option Y) → f x ≡ o → IsStrictlySortedBy prefix_cmp (map py (filter_map f xs)) → IsStrictlySortedBy prefix_cmp (map py (cons_option o (filter_map f xs)))
      by None is rest = rest
      by (Some y) is rest = (subst (λ p. AllByRecursion (λ q. prefix_cmp p q ≡ Less) (map py (filter_map f xs))) (sym (keeps x y is)) (above (px x) xs up.0), rest)

abbrev row_prefix : Row → Cidr
row_prefix row = row.prefix

abbrev route_prefix : Route → Cidr
route_prefix route = route.prefix

map_same : (ps : List Cidr) → map (λ p. p) ps ≡ ps
map_same [] = refl
map_same (p ∷ ps) = ap (λ t. p ∷ t) (map_same ps)

rows_sorted : (adverts : List Advert) → IsStrictlySortedBy prefix_cmp (map row_prefix (offered_rows adverts))
unfolding offered_rows
rows_sorted adverts = kept_order (λ p. p) row_prefix (λ p. offered_row p (offers_at p adverts)) (λ p row is. keeps p (offers_at p adverts) row is) (in_order prefix_cmp (map advert_prefix adverts))
    (subst (IsStrictlySortedBy prefix_cmp) (sym (map_same (in_order prefix_cmp (map advert_prefix adverts)))) (in_order-sorted prefix_cmp prefix_cmp_total (map advert_prefix adverts)))
  where
    keeps : (p : Cidr) (offers : List Offered) (row : Row) → offered_row p offers ≡ Some row → row.prefix ≡ p
    keeps p [] row is = absurd (cc)
    keeps p (o ∷ os) row is = let same : record { prefix = p; offers = o ∷ os } ≡ row = cc in sym (ap row_prefix same)

-- no prefix stands before 0.0.0.0/0
default_first : (p : Cidr) → is_eq (prefix_cmp p default_prefix) ≡ false → prefix_cmp default_prefix p ≡ Less
default_first p other = by p.network p.len other
  where
    above_zero : (n : ℕ) → nat_lt 0 (suc n) ≡ true
    above_zero n = grind (arith, common_steps, nat_tests)

    by : (n l : ℕ) → is_eq (prefix_cmp (record { network = n; len = l }) default_prefix) ≡ false → prefix_cmp default_prefix (record { network = n; len = l }) ≡ Less
    by zero zero is = absurd (cc)
    by zero (suc l) is = ap (λ b. ordering_then (cond b Less (cond (0 == suc l) Equal Greater)) Equal) (above_zero l)
    by (suc n) l is = ap (λ b. ordering_then (cond b Less (cond (0 == suc n) Equal Greater)) (ordering_then (nat_cmp 0 l) Equal)) (above_zero n)

default_sorted : (rows : List Row) → IsStrictlySortedBy prefix_cmp (map row_prefix rows) → IsStrictlySortedBy prefix_cmp (map row_prefix (with_default rows))
unfolding IsStrictlySortedBy
default_sorted [] up = (tt, tt)
default_sorted (row ∷ rows) up = by (is_default row.prefix) refl
  where
    less : is_default row.prefix ≡ false → (ps : List Cidr) → AllByRecursion (λ q. prefix_cmp row.prefix q ≡ Less) ps → AllByRecursion (λ q. prefix_cmp default_prefix q ≡ Less) ps
    less other [] all = tt
    less other (p ∷ ps) all = (prefix_cmp_total.trans default_prefix row.prefix p (default_first row.prefix other) all.0, less other ps all.1)

    by : (b : Bool) → is_default row.prefix ≡ b → IsStrictlySortedBy prefix_cmp (map row_prefix (cond b (row ∷ rows) (default_row ∷ row ∷ rows)))
    by true is = up
    by false is = ((default_first row.prefix is, less is (map row_prefix rows) up.0), up)

pub route_keeps : (m : OspfRouter) (p : Cidr) (inside : List Offered) (s : Summaries) (route : Route) → internal_route_to m p inside s ≡ Some route → route.prefix ≡ p
route_keeps m p inside s route is = by_own (list_any (is_offered_by m.router) inside) is
  where
    by_inter : (w : Option (Way ℕ)) → option_map (internal_route_over OspfIa p) w ≡ Some route → route.prefix ≡ p
    by_inter None is = absurd (cc)
    by_inter (Some w) is = let same : internal_route_over OspfIa p w ≡ route = cc in sym (ap route_prefix same)

    by_intra : (w : Option (Way ℕ)) → option_or (option_map (internal_route_over Ospf p) w) (option_map (internal_route_over OspfIa p) (inter m s)) ≡ Some route → route.prefix ≡ p
    by_intra None is = by_inter (inter m s) is
    by_intra (Some w) is = let same : internal_route_over Ospf p w ≡ route = cc in sym (ap route_prefix same)

    by_own : (b : Bool) → cond b None (option_or (option_map (internal_route_over Ospf p) (best_way m.reach inside)) (option_map (internal_route_over OspfIa p) (inter m s))) ≡ Some route → route.prefix ≡ p
    by_own true is = absurd (cc)
    by_own false is = by_intra (best_way m.reach inside) is

pub internal_table : (routers : List OspfRouter) (adverts : List Advert) (m : OspfRouter) → IsTable (internal_routes routers adverts m)
unfolding internal_routes
internal_table routers adverts m = kept_order row_prefix route_prefix (internal_route routers m)
    (λ row route is. route_keeps m row.prefix row.offers (summaries_of routers (is_default row.prefix) row.offers) route is)
    (with_default (offered_rows adverts)) (default_sorted (offered_rows adverts) (rows_sorted adverts))

pub each_table : (routers : List OspfRouter) (adverts : List Advert) (ms : List OspfRouter) → AllByRecursion IsTable (map (internal_routes routers adverts) ms)
each_table routers adverts [] = tt
each_table routers adverts (m ∷ ms) = (internal_table routers adverts m, each_table routers adverts ms)
