-- Rows and routes stand in order of prefix.
use Rattle.std.proofs.Common.{refl, ◌≡◌, ap, sym, subst, List, [], ◌∷◌, map, Option, Some, None, Result, Ok, Err, IfOk}
use Rattle.std.specs.List.{AllByRecursion, cons_option, filter_map}
use Rattle.std.specs.List.Sorted.{IsStrictlySortedBy}
use Rattle.std.specs.Option.{option_map}
use Rattle.std.specs.declared.alloc.AllocError.{AllocError}
use Rattle.std.specs.declared.cmp.Ordering.TheVariants.{Less}
use Rattle.std.proofs.lemmas.Option.{none-some, same_Some}
use Rattle.rc_base.specs.Lists.{in_order}
use Rattle.rc_base.specs.Prefix.{Cidr, prefix_cmp}
use Rattle.rc_base.proofs.OrderedLaws.{in_order-sorted, prefix_cmp_total}
use Rattle.rc_ospf.specs.BoundaryPaths.{BoundaryPath}
use Rattle.rc_route.specs.Tables.{IsTable}
use Rattle.rc_route.specs.Ways.{Way}
use Rattle.rc_route.specs.declared.route.Route.{Route}
use Rattle.rc_external.specs.AsExternal.{AsExternal}
use Rattle.rc_external.specs.Externals.{IsByPrefix, by_prefix, prefix_of, row_for, sent_for}
use Rattle.rc_external.specs.Routes.{external_route_over, external_route_to, routes_over}
use Rattle.rc_external.specs.Ways.{best_external_way}
use Rattle.rc_external.specs.declared.as_external.ExternalRow.{ExternalRow}
use Rattle.rc_external.specs.declared.cost.ExternalCost.{ExternalCost}

-- what gives something for a thing gives one of its prefix
module _ {A B : Type 0} (of_a : A → Cidr) (of_b : B → Cidr) (f : A → Option B) (keeps : (x : A) (y : B) → f x ≡ Some y → of_b y ≡ of_a x) where
  prefixes_below : (P : Cidr → Type 0) (xs : List A) → AllByRecursion P (map of_a xs) → AllByRecursion P (map of_b (filter_map f xs))
  prefixes_below P [] h = tt
  prefixes_below P (x ∷ xs) h = by (f x) refl (prefixes_below P xs h.1)
    where
      by : (o : Option B) → f x ≡ o → AllByRecursion P (map of_b (filter_map f xs)) → AllByRecursion P (map of_b (cons_option o (filter_map f xs)))
      by None e rest = rest
      by (Some y) e rest = (subst P (sym (keeps x y e)) h.0, rest)

  pub in_order_of : (xs : List A) → IsStrictlySortedBy prefix_cmp (map of_a xs) → IsStrictlySortedBy prefix_cmp (map of_b (filter_map f xs))
  unfolding IsStrictlySortedBy
  in_order_of [] h = tt
  in_order_of (x ∷ xs) h = by (f x) refl (in_order_of xs h.1) (prefixes_below (λ q. prefix_cmp (of_a x) q ≡ Less) xs h.0)
    where
      by : (o : Option B) → f x ≡ o → IsStrictlySortedBy prefix_cmp (map of_b (filter_map f xs)) → AllByRecursion (λ q. prefix_cmp (of_a x) q ≡ Less) (map of_b (filter_map f xs))
          → IsStrictlySortedBy prefix_cmp (map of_b (cons_option o (filter_map f xs)))
      by None e rest above = rest
      by (Some y) e rest above = (subst (λ p. AllByRecursion (λ q. prefix_cmp p q ≡ Less) (map of_b (filter_map f xs))) (sym (keeps x y e)) above, rest)

-- ---- rows

row_prefix : (p : Cidr) (es : List AsExternal) (row : ExternalRow) → row_for p es ≡ Some row → row.prefix ≡ p
row_prefix p [] row e = absurd (none-some row e)
row_prefix p (x ∷ es) row e = ap (λ (r : ExternalRow). r.prefix) (sym (same_Some _ row e))

as_they_are : (ps : List Cidr) → map (λ p. p) ps ≡ ps
as_they_are [] = refl
as_they_are (p ∷ ps) = ap (λ qs. p ∷ qs) (as_they_are ps)

pub by_prefix-in_order : (sent : List AsExternal) → IsByPrefix (by_prefix sent)
unfolding by_prefix
by_prefix-in_order sent =
    let prefixes = in_order prefix_cmp (map prefix_of sent) in
    in_order_of (λ p. p) (λ (row : ExternalRow). row.prefix) (λ p. row_for p (sent_for p sent)) (λ p row. row_prefix p (sent_for p sent) row) prefixes
    (subst (IsStrictlySortedBy prefix_cmp) (sym (as_they_are prefixes)) (in_order-sorted prefix_cmp prefix_cmp_total (map prefix_of sent)))

pub rows_in_order : (result : Result (List ExternalRow) AllocError) (sent : List AsExternal) → IfOk result (λ rows. rows ≡ by_prefix sent) → IfOk result IsByPrefix
rows_in_order (Ok rows) sent e = subst IsByPrefix (sym e) (by_prefix-in_order sent)
rows_in_order (Err x) sent e = e

-- ---- routes

route_prefix : (p : Cidr) (best : Option (Way ExternalCost)) (route : Route) → option_map (external_route_over p) best ≡ Some route → route.prefix ≡ p
route_prefix p None route e = absurd (none-some route e)
route_prefix p (Some w) route e = ap (λ (r : Route). r.prefix) (sym (same_Some (external_route_over p w) route e))

routes_over-in_order : (paths : List BoundaryPath) (rows : List ExternalRow) → IsByPrefix rows → IsTable (routes_over paths rows)
routes_over-in_order paths rows h =
    in_order_of (λ (row : ExternalRow). row.prefix) (λ (r : Route). r.prefix) (external_route_to paths) (λ row. route_prefix row.prefix (best_external_way paths row.externals)) rows h

pub routes_in_order : (result : Result (List Route) AllocError) (paths : List BoundaryPath) (rows : List ExternalRow) → IsByPrefix rows
    → IfOk result (λ routes. routes ≡ routes_over paths rows) → IfOk result IsTable
routes_in_order (Ok routes) paths rows h e = subst IsTable (sym e) (routes_over-in_order paths rows h)
routes_in_order (Err x) paths rows h e = e
