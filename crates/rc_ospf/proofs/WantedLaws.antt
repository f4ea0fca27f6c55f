-- Summaries that suffice: routes and paths are the same by them as by all.
use Rattle.std.proofs.Common.{refl, ◌≡◌, ap, sym, ◌∙◌, ℕ, ◌+◌, inl, inr, Bool, true, false, cond, List, [], ◌∷◌, map, Option, Some, None, Contains}
use Rattle.std.specs.Prelude.{◌==◌, ◌||◌, not, is_some}
use Rattle.std.specs.List.{filter_map, list_any, cons_option}
use Rattle.std.specs.Option.{option_map, option_or}
use Rattle.std.specs.Ordering.{nat_cmp}
use Rattle.rc_base.specs.Prefix.{is_default}
use Rattle.rc_config.specs.declared.network.Network.{Network}
use Rattle.rc_link_state.proofs.Members.{In, contains_in, in_contains, in_map, of_map}
use Rattle.rc_link_state.specs.Walks.{LeastWalks, Reach}
use Rattle.rc_route.specs.Ways.{Way, best_of}
use Rattle.rc_route.specs.declared.route.Source.TheVariants.{Ospf, OspfIa}
use Rattle.rc_ospf.specs.Areas.{OspfRouter, is_offered_by, summaries_of, inter}
use Rattle.rc_ospf.specs.Boundaries.{boundary_offers, boundary_path_by, path_over}
use Rattle.rc_ospf.specs.BoundaryForms.{target_of, path_of_target, boundary_paths}
use Rattle.rc_ospf.specs.ByPrefix.{destination_of, destination_route}
use Rattle.rc_ospf.specs.Members.{known, reach_of, is_border_at, table_of}
use Rattle.rc_ospf.specs.Offered.{Offered}
use Rattle.rc_ospf.specs.Routes.{internal_route_over, internal_route_to}
use Rattle.rc_shares.specs.Making.{AreMade}
use Rattle.rc_ospf.specs.Wanted.{has_inside, lacks_inside, nothing, Suffice, IsDestination, IsTarget}
use Rattle.rc_ospf.specs.Ways.{best_way, way_over, way_to}
use Rattle.rc_ospf.specs.declared.boundary.Target.{Target}
use Rattle.rc_ospf.specs.declared.destination.Destination.{Destination}
use Rattle.rc_ospf.specs.declared.grouping.Row.{Row}
use Rattle.rc_ospf.specs.declared.ospf_router.Member.{Member}
use Rattle.rc_ospf.specs.declared.member.StubAreas.{StubAreas}
use Rattle.rc_ospf.specs.declared.member.StubAreas.TheVariants.{Kept, LeftOut}
use Rattle.rc_ospf.specs.declared.summaries.Summaries.{Summaries}
use Rattle.rc_ospf.proofs.SummaryLaws.{border_known, no_summaries}

-- ---- which summaries suffice

pub all_suffice : (routers : List OspfRouter) (d : Bool) (inside : List Offered) (s : Summaries) → s ≡ summaries_of routers d inside → Suffice routers d inside s
all_suffice routers d inside s are = record { alike = λ m there none. ap (inter m) are }

module _ (stubs : StubAreas) (ms : List Member) (d : Bool) (inside : List Offered) (s : Summaries) where
  pub none_suffice : s ≡ nothing → list_any (is_border_at stubs) ms ≡ false → Suffice (map (known stubs) ms) d inside s
  none_suffice are no_border = all_suffice (map (known stubs) ms) d inside s (are ∙ sym (no_summaries (map (known stubs) ms) d inside (border_known stubs ms ∙ no_border)))

-- an offer that is reached gives a way
some_way : (reach : Reach) (inside : List Offered) → has_inside reach inside ≡ true → best_way reach inside ≡ None → ⊥
some_way reach [] has none = absurd (cc)
some_way reach (o ∷ os) has none = by (reach o.area o.router) has none (some_way reach os)
  where
    by : (p : Option LeastWalks) → (is_some p || has_inside reach os) ≡ true → best_of nat_cmp (cons_option (option_map (λ (e : LeastWalks). way_over (e.cost + o.cost) e) p) (filter_map (way_to reach) os)) ≡ None →
        (has_inside reach os ≡ true → best_way reach os ≡ None → ⊥) → ⊥
    by None has none rest = rest has none
    by (Some e) has none rest = absurd (cc)

each_has : (inside : List Offered) (ms : List Member) → list_any (lacks_inside inside) ms ≡ false → (m : Member) → In m ms → has_inside (reach_of m) inside ≡ true
each_has inside [] none m there = absurd there
each_has inside (x ∷ ms) none m there = by (has_inside (reach_of x) inside) refl none there (each_has inside ms)
  where
    by : (b : Bool) → has_inside (reach_of x) inside ≡ b → (not b || list_any (lacks_inside inside) ms) ≡ false → In m (x ∷ ms) →
        (list_any (lacks_inside inside) ms ≡ false → (m : Member) → In m ms → has_inside (reach_of m) inside ≡ true) → has_inside (reach_of m) inside ≡ true
    by true is none (inl same) rest = sym (ap (λ (y : Member). has_inside (reach_of y) inside) same) ∙ is
    by true is none (inr later) rest = rest none m later
    by false is none there rest = absurd (cc)

-- where each router has it inside areas whatever is summarised does
pub any_suffices : (stubs : StubAreas) (ms : List Member) (d : Bool) (inside : List Offered) (s : Summaries) → list_any (lacks_inside inside) ms ≡ false → Suffice (map (known stubs) ms) d inside s
any_suffices stubs ms d inside s none = record {
  alike = λ m there no_way.
      (let (x, has, same) = of_map (known stubs) ms m (contains_in (map (known stubs) ms) m there) in
      absurd (some_way m.reach inside (sym (ap (λ (r : OspfRouter). has_inside r.reach inside) same) ∙ each_has inside ms none x has) no_way));
}

-- ---- routes

over_either : {X Y Z : Type 0} (f : X → Z) (g : Y → Z) (w : Option X) (a b : Option Y) → (w ≡ None → a ≡ b) → option_or (option_map f w) (option_map g a) ≡ option_or (option_map f w) (option_map g b)
over_either f g None a b same = ap (option_map g) (same refl)
over_either f g (Some w) a b same = refl

module _ (routers : List OspfRouter) (m : OspfRouter) (there : Contains routers m) where
  route_alike : (row : Row) (d : Destination) → IsDestination routers row d → destination_route m d ≡ destination_route m (destination_of routers row)
  route_alike row d is =
      ap (λ p. internal_route_to m p d.inside d.summaries) is.prefix
      ∙ ap (λ os. internal_route_to m row.prefix os d.summaries) is.inside
      ∙ ap (λ o. cond (list_any (is_offered_by m.router) row.offers) None o)
      (over_either (internal_route_over Ospf row.prefix) (internal_route_over OspfIa row.prefix) (best_way m.reach row.offers) (inter m d.summaries) (inter m (summaries_of routers (is_default row.prefix) row.offers))
      (is.summaries.alike m there))

  routes_alike : (rows : List Row) (ds : List Destination) → AreMade (IsDestination routers) rows ds → filter_map (destination_route m) ds ≡ filter_map (destination_route m) (map (destination_of routers) rows)
  routes_alike [] [] are = refl
  routes_alike [] (d ∷ ds) are = absurd are
  routes_alike (row ∷ rows) [] are = absurd are
  routes_alike (row ∷ rows) (d ∷ ds) are =
      ap (λ o. cons_option o (filter_map (destination_route m) ds)) (route_alike row d are.0) ∙ ap (cons_option (destination_route m (destination_of routers row))) (routes_alike rows ds are.1)

  -- ---- paths to AS boundary routers

  path_alike : (net : Network) (s : ℕ) (t : Target) → IsTarget net routers s t → path_of_target m t ≡ path_of_target m (target_of net routers s)
  path_alike net s t is =
      ap (λ r. boundary_path_by m r t.inside t.summaries) is.router
      ∙ ap (λ os. boundary_path_by m s os t.summaries) is.inside
      ∙ ap (λ w. cond (m.router == s) None (option_map (path_over s) w))
      (either (best_way m.reach (boundary_offers net s)) (inter m t.summaries) (inter m (summaries_of routers false (boundary_offers net s))) (is.summaries.alike m there))
    where
      either : (w a b : Option (Way ℕ)) → (w ≡ None → a ≡ b) → option_or w a ≡ option_or w b
      either None a b same = same refl
      either (Some w) a b same = refl

  paths_alike : (net : Network) (ss : List ℕ) (ts : List Target) → AreMade (IsTarget net routers) ss ts → filter_map (path_of_target m) ts ≡ filter_map (path_of_target m) (map (target_of net routers) ss)
  paths_alike net [] [] are = refl
  paths_alike net [] (t ∷ ts) are = absurd are
  paths_alike net (s ∷ ss) [] are = absurd are
  paths_alike net (s ∷ ss) (t ∷ ts) are =
      ap (λ o. cons_option o (filter_map (path_of_target m) ts)) (path_alike net s t are.0) ∙ ap (cons_option (path_of_target m (target_of net routers s))) (paths_alike net ss ts are.1)

-- ---- of all routers

same_map : {X Y : Type 0} (f g : X → Y) (xs : List X) → ((x : X) → In x xs → f x ≡ g x) → map f xs ≡ map g xs
same_map f g [] each = refl
same_map f g (x ∷ xs) each = ap (λ y. y ∷ map f xs) (each x (inl refl)) ∙ ap (λ ys. g x ∷ ys) (same_map f g xs (λ y later. each y (inr later)))

known_there : (stubs : StubAreas) (ms : List Member) (m : Member) → In m ms → Contains (map (known stubs) ms) (known stubs m)
known_there stubs ms m there = in_contains (map (known stubs) ms) (known stubs m) (in_map (known stubs) ms m there)

pub tables_alike : (ms : List Member) (rows : List Row) (ds : List Destination) → AreMade (IsDestination (map (known Kept) ms)) rows ds → map (table_of ds) ms ≡ map (table_of (map (destination_of (map (known Kept) ms)) rows)) ms
tables_alike ms rows ds are = same_map (table_of ds) (table_of (map (destination_of (map (known Kept) ms)) rows)) ms
    (λ m there. routes_alike (map (known Kept) ms) (known Kept m) (known_there Kept ms m there) rows ds are)

pub boundaries_alike : (net : Network) (ms : List Member) (ss : List ℕ) (ts : List Target) → AreMade (IsTarget net (map (known LeftOut) ms)) ss ts →
    map (boundary_paths ts) ms ≡ map (boundary_paths (map (target_of net (map (known LeftOut) ms)) ss)) ms
boundaries_alike net ms ss ts are = same_map (boundary_paths ts) (boundary_paths (map (target_of net (map (known LeftOut) ms)) ss)) ms
    (λ m there. paths_alike (map (known LeftOut) ms) (known LeftOut m) (known_there LeftOut ms m there) net ss ts are)
