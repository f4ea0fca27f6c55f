-- The rows of the index of a router's interfaces are its connected routes, and these are a table.
use Rattle.std.proofs.Common.{refl, ◌≡◌, ap, sym, ◌∙◌, subst, ℕ, zero, suc, ◌+◌, Bool, true, false, cond, List, [], ◌∷◌, ◌++◌, length, map, filter, arith}
use Rattle.std.specs.List.{list_any, flat_map, range_with_len}
use Rattle.std.specs.List.Sorted.{IsStrictlySortedBy}
use Rattle.std.proofs.lemmas.List.{map-append}
use Rattle.std.proofs.lemmas.List.Sums.{fold-append}
use Rattle.rc_base.specs.Index.{index_of, with_interface}
use Rattle.rc_base.specs.Lists.{in_order}
use Rattle.rc_base.specs.Prefix.{Cidr, prefix_cmp, same_prefix}
use Rattle.rc_base.specs.declared.position.IfId.{IfId}
use Rattle.rc_base.proofs.IndexLaws.{rows_of_index, distinct_ids_of}
use Rattle.rc_base.proofs.OrderedLaws.{prefix_cmp_total, in_order-sorted}
use Rattle.rc_config.specs.Down.{Entries}
use Rattle.rc_route.specs.Tables.{IsTable}
use Rattle.rc_route.specs.declared.route.Hop.TheVariants.{Dev}
use Rattle.rc_route.specs.declared.route.Route.{Route}
use Rattle.rc_route.specs.declared.route.Source.TheVariants as source
use Rattle.rc_rib.specs.Connected.{prefixes_at, out_of, indexes, route_of, connected}
use Rattle.rc_rib.specs.Offers.{id_at, ids_before, prefixes_of_id, route_of_members}

-- ---- one interface more

range-last : (a n : ℕ) → range_with_len a (suc n) ≡ range_with_len a n ++ (a + n) ∷ []
range-last a zero = ap (λ k. k ∷ []) (omega arith)
range-last a (suc n) = ap (λ ks. a ∷ ks) (range-last (a + 1) n ∙ ap (λ k. range_with_len (a + 1) n ++ k ∷ []) (omega arith))

ids-last : (r n : ℕ) → ids_before r (suc n) ≡ ids_before r n ++ id_at r n ∷ []
ids-last r n =
    ap (map (id_at r)) (range-last 0 n) ∙ map-append (id_at r) (range_with_len 0 n) ((0 + n) ∷ []) ∙ ap (λ k. ids_before r n ++ id_at r k ∷ []) (omega arith)

pub index_more : (f : IfId → List Cidr) (r n : ℕ) → with_interface f (index_of f (ids_before r n)) (id_at r n) ≡ index_of f (ids_before r (n + 1))
index_more f r n =
    sym (fold-append (with_interface f) [] (ids_before r n) (id_at r n ∷ [])) ∙ ap (index_of f) (sym (ids-last r n)) ∙ ap (λ k. index_of f (ids_before r k)) (let e : suc n ≡ n + 1 = omega arith in e)

-- ---- all interfaces

module _ (r : ℕ) (entries : Entries) where
  prefixes_of_ids : (ks : List ℕ) → flat_map (prefixes_of_id entries) (map (id_at r) ks) ≡ flat_map (prefixes_at entries) ks
  prefixes_of_ids [] = refl
  prefixes_of_ids (k ∷ ks) = ap (λ ps. prefixes_at entries k ++ ps) (prefixes_of_ids ks)

  hops_of_ids : (p : Cidr) (ks : List ℕ) → map Dev (filter (λ i. list_any (same_prefix p) (prefixes_of_id entries i)) (map (id_at r) ks)) ≡ map (out_of r) (filter (λ k. list_any (same_prefix p) (prefixes_at entries k)) ks)
  hops_of_ids p [] = refl
  hops_of_ids p (k ∷ ks) = by (list_any (same_prefix p) (prefixes_at entries k)) (hops_of_ids p ks)
    where
      by : (b : Bool) → map Dev (filter (λ i. list_any (same_prefix p) (prefixes_of_id entries i)) (map (id_at r) ks)) ≡ map (out_of r) (filter (λ j. list_any (same_prefix p) (prefixes_at entries j)) ks)
          → map Dev (cond b (id_at r k ∷ filter (λ i. list_any (same_prefix p) (prefixes_of_id entries i)) (map (id_at r) ks)) (filter (λ i. list_any (same_prefix p) (prefixes_of_id entries i)) (map (id_at r) ks)))
          ≡ map (out_of r) (cond b (k ∷ filter (λ j. list_any (same_prefix p) (prefixes_at entries j)) ks) (filter (λ j. list_any (same_prefix p) (prefixes_at entries j)) ks))
      by true rest = ap (λ hops. out_of r k ∷ hops) rest
      by false rest = rest

  routes_by_prefix : (ps : List Cidr) → map (λ p. route_of_members p (filter (λ i. list_any (same_prefix p) (prefixes_of_id entries i)) (ids_before r (length entries)))) ps ≡ map (route_of r entries) ps
  routes_by_prefix [] = refl
  routes_by_prefix (p ∷ ps) =
      ap (λ hops. record { prefix = p; source = source.Connected; distance = 0; metric = 0; hops = hops } ∷ map (λ q. route_of_members q (filter (λ i. list_any (same_prefix q) (prefixes_of_id entries i)) (ids_before r (length entries)))) ps) (hops_of_ids p (indexes entries))
      ∙ ap (λ routes. route_of r entries p ∷ routes) (routes_by_prefix ps)

  -- the rows of all interfaces are the connected routes
  pub routes_of_index : map (λ row. route_of_members row.0 row.1) (index_of (prefixes_of_id entries) (ids_before r (length entries))) ≡ connected r entries
  unfolding connected
  routes_of_index =
      rows_of_index route_of_members (prefixes_of_id entries) (ids_before r (length entries)) (distinct_ids_of r (length entries))
      ∙ routes_by_prefix (in_order prefix_cmp (flat_map (prefixes_of_id entries) (ids_before r (length entries))))
      ∙ ap (λ ps. map (route_of r entries) (in_order prefix_cmp ps)) (prefixes_of_ids (indexes entries))

  -- ---- the routes are a table

  prefixes_of_routes : (ps : List Cidr) → map (λ (x : Route). x.prefix) (map (route_of r entries) ps) ≡ ps
  prefixes_of_routes [] = refl
  prefixes_of_routes (p ∷ ps) = ap (λ qs. p ∷ qs) (prefixes_of_routes ps)

  -- one route for each prefix, by address, then length
  pub connected_is_table : IsTable (connected r entries)
  unfolding connected
  connected_is_table =
      let ps : List Cidr = flat_map (prefixes_at entries) (indexes entries) in
      subst (IsStrictlySortedBy prefix_cmp) (sym (prefixes_of_routes (in_order prefix_cmp ps))) (in_order-sorted prefix_cmp prefix_cmp_total ps)
