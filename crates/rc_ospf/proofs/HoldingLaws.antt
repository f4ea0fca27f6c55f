-- The routes at an address are those to the destinations whose prefix holds it.
use Rattle.std.proofs.Common.{refl, ◌≡◌, ap, sym, ◌∙◌, ℕ, Bool, true, false, cond, List, [], ◌∷◌, filter, map, Option, Some, None, All}
use Rattle.std.specs.List.{filter_map, cons_option, AllByRecursion}
use Rattle.std.specs.List.Sorted.{IsStrictlySortedBy}
use Rattle.std.specs.declared.cmp.Ordering.TheVariants.{Less}
use Rattle.rc_base.specs.Prefix.{Cidr, contains, is_default, prefix_cmp}
use Rattle.rc_route.specs.Tables.{IsTable}
use Rattle.rc_route.specs.declared.route.Route.{Route}
use Rattle.rc_ospf.specs.Areas.{OspfRouter, summaries_of}
use Rattle.rc_ospf.specs.ByPrefix.{destination_of, destination_route}
use Rattle.rc_ospf.specs.Internal.{holding, tables_asked}
use Rattle.rc_ospf.specs.Members.{known}
use Rattle.rc_ospf.specs.Routes.{with_default, offered_rows, internal_route, internal_routes, rows_asked, rows_holding}
use Rattle.rc_ospf.specs.declared.grouping.Row.{Row}
use Rattle.rc_ospf.specs.declared.ospf_router.Member.{Member}
use Rattle.rc_ospf.specs.declared.member.StubAreas.TheVariants.{Kept}
use Rattle.rc_ospf.specs.declared.offer.Advert.{Advert}
use Rattle.rc_ospf.proofs.FitLaws.{all_of}
use Rattle.rc_ospf.proofs.SortedLaws.{route_keeps, each_table}
use Rattle.rc_ospf.proofs.TableLaws.{filter_map-map, routes_are}

-- ---- some routes of a table are a table

pub all_left : (P : Cidr → Type 0) (p : Route → Bool) (xs : List Route) → AllByRecursion P (map (λ (x : Route). x.prefix) xs) → AllByRecursion P (map (λ (x : Route). x.prefix) (filter p xs))
all_left P p [] all = tt
all_left P p (x ∷ xs) all = by (p x) (all_left P p xs all.1)
  where
    by : (b : Bool) → AllByRecursion P (map (λ (x : Route). x.prefix) (filter p xs)) → AllByRecursion P (map (λ (x : Route). x.prefix) (cond b (x ∷ filter p xs) (filter p xs)))
    by true rest = (all.0, rest)
    by false rest = rest

pub left_in_order : (p : Route → Bool) (xs : List Route) → IsTable xs → IsTable (filter p xs)
unfolding IsStrictlySortedBy
left_in_order p [] up = tt
left_in_order p (x ∷ xs) up = by (p x) (left_in_order p xs up.1)
  where
    by : (b : Bool) → IsTable (filter p xs) → IsTable (cond b (x ∷ filter p xs) (filter p xs))
    by true rest = (all_left (λ q. prefix_cmp x.prefix q ≡ Less) p xs up.0, rest)
    by false rest = rest

module _ (a : ℕ) where
  each_held : (ts : List (List Route)) → AllByRecursion IsTable ts → AllByRecursion IsTable (map (holding a) ts)
  each_held [] all = tt
  each_held (t ∷ ts) all = (left_in_order (λ (x : Route). contains x.prefix a) t all.0, each_held ts all.1)

  -- ---- a route has the prefix of its row
  module _ (routers : List OspfRouter) (m : OspfRouter) where
    holds_alike : (row : Row) (x : Route) → internal_route routers m row ≡ Some x → contains x.prefix a ≡ contains row.prefix a
    holds_alike row x is = ap (λ p. contains p a) (route_keeps m row.prefix row.offers (summaries_of routers (is_default row.prefix) row.offers) x is)

    pub found_holding : (rows : List Row) → filter_map (internal_route routers m) (rows_holding a rows) ≡ holding a (filter_map (internal_route routers m) rows)
    found_holding [] = refl
    found_holding (row ∷ rows) = by (contains row.prefix a) refl (internal_route routers m row) refl (found_holding rows)
      where
        by : (b : Bool) → contains row.prefix a ≡ b → (o : Option Route) → internal_route routers m row ≡ o → filter_map (internal_route routers m) (rows_holding a rows) ≡ holding a (filter_map (internal_route routers m) rows)
            → filter_map (internal_route routers m) (cond b (row ∷ rows_holding a rows) (rows_holding a rows)) ≡ holding a (cons_option o (filter_map (internal_route routers m) rows))
        by true at None is rest = ap (λ o. cons_option o (filter_map (internal_route routers m) (rows_holding a rows))) is ∙ rest
        by true at (Some x) is rest =
            ap (λ o. cons_option o (filter_map (internal_route routers m) (rows_holding a rows))) is ∙ ap (λ t. x ∷ t) rest
            ∙ sym (ap (λ c. cond c (x ∷ holding a (filter_map (internal_route routers m) rows)) (holding a (filter_map (internal_route routers m) rows))) (holds_alike row x is ∙ at))
        by false at None is rest = rest
        by false at (Some x) is rest =
            rest ∙ sym (ap (λ c. cond c (x ∷ holding a (filter_map (internal_route routers m) rows)) (holding a (filter_map (internal_route routers m) rows))) (holds_alike row x is ∙ at))

  -- ---- so it is of all routers
  held_are : (routers : List OspfRouter) (adverts : List Advert) (ms : List Member) →
      map (λ m. filter_map (destination_route (known Kept m)) (map (destination_of routers) (rows_holding a (with_default (offered_rows adverts))))) ms ≡ map (holding a) (map (internal_routes routers adverts) (map (known Kept) ms))
  unfolding internal_routes
  held_are routers adverts [] = refl
  held_are routers adverts (m ∷ ms) =
      let rows = with_default (offered_rows adverts) in
      ap (λ t. t ∷ map (λ x. filter_map (destination_route (known Kept x)) (map (destination_of routers) (rows_holding a rows))) ms)
      (filter_map-map (destination_route (known Kept m)) (destination_of routers) (rows_holding a rows) ∙ found_holding routers (known Kept m) rows)
      ∙ ap (λ ts. holding a (filter_map (internal_route routers (known Kept m)) rows) ∷ ts) (held_are routers adverts ms)

pub asked_are : (asked : Option ℕ) (routers : List OspfRouter) (adverts : List Advert) (ms : List Member) →
    map (λ m. filter_map (destination_route (known Kept m)) (map (destination_of routers) (rows_asked asked (with_default (offered_rows adverts))))) ms ≡ tables_asked asked (map (internal_routes routers adverts) (map (known Kept) ms))
asked_are None routers adverts ms = routes_are routers adverts ms
asked_are (Some a) routers adverts ms = held_are a routers adverts ms

pub all_asked : (asked : Option ℕ) (routers : List OspfRouter) (adverts : List Advert) (ms : List OspfRouter) → All IsTable (tables_asked asked (map (internal_routes routers adverts) ms))
all_asked None routers adverts ms = all_of IsTable (map (internal_routes routers adverts) ms) (each_table routers adverts ms)
all_asked (Some a) routers adverts ms = all_of IsTable (map (holding a) (map (internal_routes routers adverts) ms)) (each_held a (map (internal_routes routers adverts) ms) (each_table routers adverts ms))
