-- The best routes of some candidates: what offering them one by one makes, and a table.
use Rattle.std.proofs.Common.{refl, ◌≡◌, ap, sym, ◌∙◌, subst, Bool, true, false, cond, List, [], ◌∷◌, ◌++◌, map, Option, Some, None}
use Rattle.std.specs.List.{fold, filter_map, cons_option, AllByRecursion}
use Rattle.std.specs.List.Sorted.{IsStrictlySortedBy}
use Rattle.std.specs.Option.{option_map, unwrap_or}
use Rattle.std.specs.Ordering.{is_eq}
use Rattle.std.specs.declared.cmp.Ordering.{Ordering}
use Rattle.std.specs.declared.cmp.Ordering.TheVariants.{Less, Equal, Greater}
use Rattle.std.proofs.lemmas.Option.{none-some}
use Rattle.rc_base.specs.Lists.{in_order}
use Rattle.rc_base.specs.Prefix.{Cidr, prefix_cmp, same_prefix}
use Rattle.rc_base.proofs.OrderedLaws.{prefix_cmp_total, same_by_prefix_cmp, in_order-sorted}
use Rattle.rc_route.specs.Tables.{IsTable}
use Rattle.rc_route.specs.declared.route.Route.{Route}
use Rattle.rc_rib.specs.Best.{is_preferred, better, preferred, routes_at, best_routes}
use Rattle.std.proofs.lemmas.List.Sums.{fold-append}
use Rattle.rc_base.specs.Groups.{grouped, with_thing, value_of, value_at}
use Rattle.rc_rib.specs.Offers.{prefix_of, offered}
use Rattle.rc_base.proofs.GroupLaws.{grouped_rows}

-- ---- offers

preferred_from : (x : Route) (xs : List Route) → fold (λ v y. Some (offered v y)) (Some x) xs ≡ Some (fold better x xs)
preferred_from x [] = refl
preferred_from x (y ∷ ys) = preferred_from (better x y) ys

offers : (xs : List Route) → value_of prefix_of offered xs ≡ preferred xs
offers [] = refl
offers (x ∷ xs) = preferred_from x xs

as_it_is : (o : Option Route) → option_map (λ r. r) o ≡ o
as_it_is None = refl
as_it_is (Some r) = refl

each_prefix : (cs : List Route) (ps : List Cidr) → filter_map (λ p. option_map (λ r. r) (value_at prefix_of offered p cs)) ps ≡ filter_map (λ p. preferred (routes_at p cs)) ps
each_prefix cs [] = refl
each_prefix cs (p ∷ ps) =
    ap (λ o. cons_option o (filter_map (λ q. option_map (λ r. r) (value_at prefix_of offered q cs)) ps)) (as_it_is (value_at prefix_of offered p cs) ∙ offers (routes_at p cs))
    ∙ ap (cons_option (preferred (routes_at p cs))) (each_prefix cs ps)

-- offered one by one they are the best routes
pub best_of_offers : (cs : List Route) → map (λ row. row.1) (grouped prefix_of offered cs) ≡ best_routes cs
unfolding best_routes
best_of_offers cs = grouped_rows prefix_of offered (λ p r. r) cs ∙ each_prefix cs (in_order prefix_cmp (map prefix_of cs))

-- ---- a table

-- what gives a route for a prefix gives one of that prefix
abbrev KeepsPrefix : (Cidr → Option Route) → Type 0
KeepsPrefix f = (q : Cidr) (r : Route) → f q ≡ Some r → r.prefix ≡ q

module _ (f : Cidr → Option Route) (keeps : KeepsPrefix f) where
  prefixes_below : (P : Cidr → Type 0) (ps : List Cidr) → AllByRecursion P ps → AllByRecursion P (map prefix_of (filter_map f ps))
  prefixes_below P [] h = tt
  prefixes_below P (p ∷ ps) h = by (f p) refl (prefixes_below P ps h.1)
    where
      by : (o : Option Route) → f p ≡ o → AllByRecursion P (map prefix_of (filter_map f ps)) → AllByRecursion P (map prefix_of (cons_option o (filter_map f ps)))
      by None e rest = rest
      by (Some r) e rest = (subst P (sym (keeps p r e)) h.0, rest)

  in_order_of : (ps : List Cidr) → IsStrictlySortedBy prefix_cmp ps → IsStrictlySortedBy prefix_cmp (map prefix_of (filter_map f ps))
  unfolding IsStrictlySortedBy
  in_order_of [] h = tt
  in_order_of (p ∷ ps) h = by (f p) refl (in_order_of ps h.1) (prefixes_below (λ q. prefix_cmp p q ≡ Less) ps h.0)
    where
      by : (o : Option Route) → f p ≡ o → IsStrictlySortedBy prefix_cmp (map prefix_of (filter_map f ps)) → AllByRecursion (λ q. prefix_cmp p q ≡ Less) (map prefix_of (filter_map f ps)) → IsStrictlySortedBy prefix_cmp (map prefix_of (cons_option o (filter_map f ps)))
      by None e rest above = rest
      by (Some r) e rest above = (subst (λ x. AllByRecursion (λ q. prefix_cmp x q ≡ Less) (map prefix_of (filter_map f ps))) (sym (keeps p r e)) above, rest)

chosen : (P : Route → Type 0) (b : Bool) (x y : Route) → P x → P y → P (cond b x y)
chosen P true x y p q = p
chosen P false x y p q = q

fold-chosen : (P : Route → Type 0) (x : Route) (xs : List Route) → P x → AllByRecursion P xs → P (fold better x xs)
fold-chosen P x [] p h = p
fold-chosen P x (y ∷ ys) p h = fold-chosen P (better x y) ys (chosen P (is_preferred y x) y x h.0 p) h.1

all-routes_at : (p : Cidr) (cs : List Route) → AllByRecursion (λ (r : Route). same_prefix p r.prefix ≡ true) (routes_at p cs)
all-routes_at p [] = tt
all-routes_at p (c ∷ cs) = by (same_prefix p c.prefix) refl (all-routes_at p cs)
  where
    by : (b : Bool) → same_prefix p c.prefix ≡ b → AllByRecursion (λ (r : Route). same_prefix p r.prefix ≡ true) (routes_at p cs) → AllByRecursion (λ (r : Route). same_prefix p r.prefix ≡ true) (cond b (c ∷ routes_at p cs) (routes_at p cs))
    by true e rest = (e, rest)
    by false e rest = rest

of_reduced : (P : Route → Type 0) (xs : List Route) (r : Route) → AllByRecursion P xs → preferred xs ≡ Some r → P r
of_reduced P [] r h e = absurd (none-some r e)
of_reduced P (x ∷ xs) r h e = subst P (ap (λ o. unwrap_or o r) e) (fold-chosen P x xs h.0 h.1)

pub same_by_test : (p q : Cidr) → same_prefix p q ≡ true → q ≡ p
same_by_test p q e = by (prefix_cmp p q) refl e
  where
    by : (o : Ordering) → prefix_cmp p q ≡ o → is_eq o ≡ true → q ≡ p
    by Less is e = absurd (cc)
    by Equal is e = sym (same_by_prefix_cmp p q is)
    by Greater is e = absurd (cc)

pub preferred-prefix : (cs : List Route) → KeepsPrefix (λ p. preferred (routes_at p cs))
preferred-prefix cs p r e = same_by_test p r.prefix (of_reduced (λ (x : Route). same_prefix p x.prefix ≡ true) (routes_at p cs) r (all-routes_at p cs) e)

-- one route for each prefix, by address, then length
pub best_is_table : (cs : List Route) → IsTable (best_routes cs)
unfolding best_routes
best_is_table cs = in_order_of (λ p. preferred (routes_at p cs)) (preferred-prefix cs) (in_order prefix_cmp (map prefix_of cs)) (in_order-sorted prefix_cmp prefix_cmp_total (map prefix_of cs))

-- the candidates of two lists, offered one by one
pub best_of_two : (first second : List Route) → map (λ row. row.1) (fold (with_thing prefix_of offered) (fold (with_thing prefix_of offered) [] first) second) ≡ best_routes (first ++ second)
best_of_two first second = ap (map (λ row. row.1)) (sym (fold-append (with_thing prefix_of offered) [] first second)) ∙ best_of_offers (first ++ second)
