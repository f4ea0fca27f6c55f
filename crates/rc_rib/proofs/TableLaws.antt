-- A table is the best routes of itself: it has one route for each prefix, in order.
use Rattle.std.proofs.Common.{refl, ◌≡◌, ap, sym, ◌∙◌, subst, false, cond, List, [], ◌∷◌, ◌++◌, map, append_assoc, append-nil}
use Rattle.std.specs.List.{fold, filter_map, cons_option, AllByRecursion}
use Rattle.std.specs.List.Sorted.{IsStrictlySortedBy}
use Rattle.std.specs.Ordering.{is_eq, match_ordering, ordering_reverse}
use Rattle.std.specs.declared.cmp.Ordering.TheVariants.{Less}
use Rattle.std.specs.BTreeSet.{insert_key}
use Rattle.rc_base.specs.Lists.{in_order}
use Rattle.rc_base.specs.Prefix.{Cidr, prefix_cmp, same_prefix}
use Rattle.rc_base.proofs.OrderedLaws.{prefix_cmp_total}
use Rattle.rc_route.specs.Tables.{IsRouterState, IsTable}
use Rattle.rc_route.specs.declared.route.Route.{Route}
use Rattle.rc_route.specs.declared.state.RouterState.{RouterState}
use Rattle.rc_rib.specs.Best.{preferred, routes_at, best_routes}
use Rattle.rc_rib.specs.Offers.{prefix_of}
use Rattle.rc_base.proofs.GroupLaws.{same_itself}

abbrev Below : Cidr → List Cidr → Type 0
Below p ks = AllByRecursion (λ k. prefix_cmp p k ≡ Less) ks

abbrev Above : Cidr → List Cidr → Type 0
Above p ks = AllByRecursion (λ k. prefix_cmp k p ≡ Less) ks

-- ---- prefixes in order stay as they are

insert_last : (ks : List Cidr) (p : Cidr) → Above p ks → insert_key prefix_cmp ks p ≡ ks ++ p ∷ []
insert_last [] p above = refl
insert_last (k ∷ ks) p above =
    ap (λ o. match_ordering o (p ∷ k ∷ ks) (k ∷ ks) (k ∷ insert_key prefix_cmp ks p)) (prefix_cmp_total.antisymm p k ∙ ap ordering_reverse above.0) ∙ ap (λ t. k ∷ t) (insert_last ks p above.1)

above_front : (front : List Cidr) (p : Cidr) (ks : List Cidr) → IsStrictlySortedBy prefix_cmp (front ++ p ∷ ks) → Above p front
unfolding IsStrictlySortedBy
above_front [] p ks up = tt
above_front (k ∷ front) p ks up = (first front up.0, above_front front p ks up.1)
  where
    first : (xs : List Cidr) → AllByRecursion (λ y. prefix_cmp k y ≡ Less) (xs ++ p ∷ ks) → prefix_cmp k p ≡ Less
    first [] below = below.0
    first (x ∷ xs) below = first xs below.1

in_order_from : (front ks : List Cidr) → IsStrictlySortedBy prefix_cmp (front ++ ks) → fold (insert_key prefix_cmp) front ks ≡ front ++ ks
in_order_from front [] up = sym (append-nil front)
in_order_from front (k ∷ ks) up =
    ap (λ t. fold (insert_key prefix_cmp) t ks) (insert_last front k (above_front front k ks up))
    ∙ in_order_from (front ++ k ∷ []) ks (subst (IsStrictlySortedBy prefix_cmp) (sym (append_assoc front (k ∷ []) ks)) up)
    ∙ append_assoc front (k ∷ []) ks

in_order_again : (ks : List Cidr) → IsStrictlySortedBy prefix_cmp ks → in_order prefix_cmp ks ≡ ks
in_order_again ks up = in_order_from [] ks up

-- ---- each route is the only one of its prefix

less_differs : (p q : Cidr) → prefix_cmp p q ≡ Less → same_prefix p q ≡ false
less_differs p q less = ap is_eq less

more_differs : (p q : Cidr) → prefix_cmp p q ≡ Less → same_prefix q p ≡ false
more_differs p q less = ap is_eq (prefix_cmp_total.antisymm q p ∙ ap ordering_reverse less)

pub none_at : (p : Cidr) (ts : List Route) → Below p (map prefix_of ts) → routes_at p ts ≡ []
none_at p [] below = refl
none_at p (t ∷ ts) below = ap (λ b. cond b (t ∷ routes_at p ts) (routes_at p ts)) (less_differs p t.prefix below.0) ∙ none_at p ts below.1

abbrev IsAlone : List Route → Route → Type 0
IsAlone ts t = routes_at t.prefix ts ≡ t ∷ []

behind : (t : Route) (all ts : List Route) → Below t.prefix (map prefix_of ts) → AllByRecursion (IsAlone all) ts → AllByRecursion (IsAlone (t ∷ all)) ts
behind t all [] below alone = tt
behind t all (x ∷ xs) below alone = (ap (λ b. cond b (t ∷ routes_at x.prefix all) (routes_at x.prefix all)) (more_differs t.prefix x.prefix below.0) ∙ alone.0, behind t all xs below.1 alone.1)

each_alone : (ts : List Route) → IsStrictlySortedBy prefix_cmp (map prefix_of ts) → AllByRecursion (IsAlone ts) ts
unfolding IsStrictlySortedBy
each_alone [] up = tt
each_alone (t ∷ ts) up =
    (ap (λ o. cond (is_eq o) (t ∷ routes_at t.prefix ts) (routes_at t.prefix ts)) (same_itself t.prefix) ∙ ap (λ rest. t ∷ rest) (none_at t.prefix ts up.0), behind t ts ts up.0 (each_alone ts up.1))

found_again : (all ts : List Route) → AllByRecursion (IsAlone all) ts → filter_map (λ p. preferred (routes_at p all)) (map prefix_of ts) ≡ ts
found_again all [] alone = refl
found_again all (t ∷ ts) alone = ap (λ rs. cons_option (preferred rs) (filter_map (λ p. preferred (routes_at p all)) (map prefix_of ts))) alone.0 ∙ ap (λ rest. t ∷ rest) (found_again all ts alone.1)

pub table_is_best : (ts : List Route) → IsTable ts → best_routes ts ≡ ts
unfolding best_routes
table_is_best ts up = ap (filter_map (λ p. preferred (routes_at p ts))) (in_order_again (map prefix_of ts) up) ∙ found_again ts ts (each_alone ts up)

-- no routes are a table
pub none_in_order : (table : List Route) → table ≡ [] → IsTable table
unfolding IsStrictlySortedBy
none_in_order table e = rw e tt

-- what a router knows that has a table and no paths
pub both_in_order : (s : RouterState) → IsTable s.table → s.paths ≡ [] → IsRouterState s
unfolding IsStrictlySortedBy
both_in_order s table none = record { table = table; paths = rw none tt }
