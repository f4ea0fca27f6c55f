-- A table by what changed in best paths is the one made anew.
use Rattle.std.proofs.Common.{refl, ◌≡◌, ap, sym, ◌∙◌, subst, ℕ, ◌<◌, length, Bool, true, false, cond, List, [], ◌∷◌, ◌++◌, map, All, Option, Some, None, IfSome, option_and_then}
use Rattle.std.specs.Prelude.{slice_get}
use Rattle.std.specs.List.{AllByRecursion, cons_option, list_any}
use Rattle.std.specs.List.Sorted.{IsStrictlySortedBy}
use Rattle.std.specs.Option.{option_map_or, option_to_list}
use Rattle.std.specs.Ordering.{is_eq}
use Rattle.std.specs.declared.cmp.Ordering.{Ordering}
use Rattle.std.specs.declared.cmp.Ordering.TheVariants.{Less, Equal, Greater}
use Rattle.std.proofs.lemmas.Bool.{or_parts}
use Rattle.std.proofs.lemmas.List.Elements.{filter-append}
use Rattle.std.proofs.lemmas.Option.{none-some}
use Rattle.rc_base.specs.Lists.{in_order}
use Rattle.rc_base.specs.Prefix.{Cidr, prefix_cmp, same_prefix}
use Rattle.rc_base.proofs.OrderedLaws.{any-in_order, in_order-sorted, prefix_cmp_total, same_by_prefix_cmp}
use Rattle.rc_topology.proofs.ListLaws.{found_passes}
use Rattle.rc_bgp.specs.Changes.{CoversChange}
use Rattle.rc_bgp.specs.Candidates.{best_paths}
use Rattle.rc_bgp.specs.RouterStates.{paths_of, route_at, table_of}
use Rattle.rc_bgp.specs.Learning.{learned_by, learned_route}
use Rattle.rc_bgp.specs.Sessions.{configured_sessions}
use Rattle.rc_bgp_session.specs.declared.session.Session.{Session}
use Rattle.rc_bgp.proofs.ListedLaws.{at_made, at_updated, same_lists, up_updated}
use Rattle.rc_bgp.proofs.PrefixLaws.{none_later, same_is}
use Rattle.rc_config.specs.Members.{router_at}
use Rattle.rc_config.specs.declared.network.Network.{Network}
use Rattle.rc_config.specs.declared.router_text.RouterText.{RouterText}
use Rattle.rc_external.specs.Externals.{externals}
use Rattle.rc_external.specs.Routes.{external_routes, routes_over}
use Rattle.rc_external.specs.declared.as_external.ExternalRow.{ExternalRow}
use Rattle.rc_fib.specs.Forwarding.{resolved}
use Rattle.rc_ospf.specs.Internal.{routes_of}
use Rattle.rc_ospf.specs.declared.model.Internal.{Internal}
use Rattle.rc_route.specs.Tables.{IsBestList, IsRouterState, IsTable, best_for}
use Rattle.rc_route.specs.declared.best.Best.{Best}
use Rattle.rc_route.specs.declared.path.PathSource.{PathSource}
use Rattle.rc_route.specs.declared.path.PathSource.TheVariants as path
use Rattle.rc_route.specs.declared.route.Route.{Route}
use Rattle.rc_route.specs.declared.state.RouterState.{RouterState}
use Rattle.rc_rib.specs.Best.{best_routes, is_preferred, preferred, routes_at}
use Rattle.rc_rib.specs.Connected.{connected}
use Rattle.rc_rib.specs.Mending.{IsMendable, is_learned, learned_at, mended, mended_at, of_all, own_routes, route_after}
use Rattle.rc_rib.specs.Merging.{merged, of_both}
use Rattle.rc_rib.specs.Next.{learned_routes, next_state, ospf_routes, table_after, to_others}
use Rattle.rc_rib.specs.Offers.{prefix_of}
use Rattle.rc_rib.specs.Static.{active_lines, static_routes}
use Rattle.rc_rib.proofs.AgainLaws.{known_in_order, known_paths, known_table, nothing_outside}
use Rattle.rc_rib.proofs.BestLaws.{best_is_table, preferred-prefix}
use Rattle.rc_rib.proofs.ConnectedLaws.{connected_is_table}
use Rattle.rc_rib.proofs.MergingLaws.{two_merged, with_none}
use Rattle.rc_rib.proofs.OrderLaws.{all_kept, at_in_order, five_merged, learned_in_order, learned_prefix, none_is_table, static_is_table}
use Rattle.rc_rib.proofs.PreferenceLaws.{known_stays}
use Rattle.rc_rib.proofs.StaticLaws.{none_asks}
use Rattle.rc_rib.proofs.TableLaws.{none_at}

-- ---- the best routes of candidates at a prefix are told by those of that prefix

none_of : (p : Cidr) (cs : List Route) → list_any (same_prefix p) (map prefix_of cs) ≡ false → routes_at p cs ≡ []
none_of p [] none = refl
none_of p (c ∷ cs) none =
    let parts = or_parts (same_prefix p c.prefix) (list_any (same_prefix p) (map prefix_of cs)) none in
    ap (λ b. cond b (c ∷ routes_at p cs) (routes_at p cs)) parts.0 ∙ none_of p cs parts.1

best_at : (cs : List Route) (p : Cidr) → route_at (best_routes cs) p ≡ preferred (routes_at p cs)
unfolding best_routes
best_at cs p =
    at_made prefix_of (λ q. preferred (routes_at q cs)) (preferred-prefix cs) (in_order prefix_cmp (map prefix_of cs)) (in_order-sorted prefix_cmp prefix_cmp_total (map prefix_of cs)) p
    (λ none. ap preferred (none_of p cs (sym (any-in_order prefix_cmp same_by_prefix_cmp (same_prefix p) (map prefix_of cs)) ∙ none)))

-- a table has one route of a prefix, or none
table_at : (p : Cidr) (ts : List Route) → IsTable ts → routes_at p ts ≡ option_to_list (route_at ts p)
unfolding IsStrictlySortedBy
table_at p [] up = refl
table_at p (t ∷ ts) up = by (prefix_cmp p t.prefix) refl (table_at p ts up.1)
  where
    by : (o : Ordering) → prefix_cmp p t.prefix ≡ o → routes_at p ts ≡ option_to_list (route_at ts p) → cond (is_eq o) (t ∷ routes_at p ts) (routes_at p ts) ≡ option_to_list (cond (is_eq o) (Some t) (route_at ts p))
    by Less e rest = rest
    by Equal e rest = ap (λ ps. t ∷ ps) (ap (λ q. routes_at q ts) (same_by_prefix_cmp p t.prefix e) ∙ none_at t.prefix ts up.0)
    by Greater e rest = rest

either : (x y : Option Route) → preferred (option_to_list x ++ option_to_list y) ≡ of_both x y
either None None = refl
either None (Some y) = refl
either (Some x) None = refl
either (Some x) (Some y) = refl

-- ---- two tables as one

pub at_merged : (xs ys : List Route) → IsTable xs → IsTable ys → (p : Cidr) → route_at (merged xs ys) p ≡ of_both (route_at xs p) (route_at ys p)
at_merged xs ys up up' p =
    ap (λ t. route_at t p) (two_merged xs ys up up') ∙ best_at (xs ++ ys) p
    ∙ ap preferred (filter-append (λ (x : Route). same_prefix p x.prefix) xs ys ∙ (λ i. table_at p xs up i ++ table_at p ys up' i)) ∙ either (route_at xs p) (route_at ys p)

pub merged_in_order : (xs ys : List Route) → IsTable xs → IsTable ys → IsTable (merged xs ys)
merged_in_order xs ys up up' = subst IsTable (sym (two_merged xs ys up up')) (best_is_table (xs ++ ys))

-- ---- what best paths give

at_learned : (paths : List Best) → IsBestList paths → (p : Cidr) → route_at (learned_routes paths) p ≡ learned_at paths p
unfolding IsStrictlySortedBy
at_learned [] up p = refl
at_learned (x ∷ xs) up p = by (prefix_cmp p x.path.prefix) refl (at_learned xs up.1 p)
  where
    later : prefix_cmp p x.path.prefix ≡ Equal → AllByRecursion (λ q. prefix_cmp p q ≡ Less) (map prefix_of (learned_routes xs))
    later e =
        all_kept (λ (b : Best). b.path.prefix) prefix_of learned_route learned_prefix (λ q. prefix_cmp p q ≡ Less) xs
        (subst (λ q. AllByRecursion (λ r. prefix_cmp q r ≡ Less) (map (λ (b : Best). b.path.prefix) xs)) (sym (same_by_prefix_cmp p x.path.prefix e)) up.0)

    here : prefix_cmp p x.path.prefix ≡ Equal → (r : Option Route) → learned_route x ≡ r → route_at (cons_option r (learned_routes xs)) p ≡ r
    here e None is = none_later prefix_of p (learned_routes xs) (later e)
    here e (Some y) is = ap (λ b. cond b (Some y) (route_at (learned_routes xs) p)) (ap (λ q. is_eq (prefix_cmp p q)) (learned_prefix x y is) ∙ ap is_eq e)

    elsewhere : is_eq (prefix_cmp p x.path.prefix) ≡ false → (r : Option Route) → learned_route x ≡ r → route_at (cons_option r (learned_routes xs)) p ≡ route_at (learned_routes xs) p
    elsewhere miss None is = refl
    elsewhere miss (Some y) is = ap (λ b. cond b (Some y) (route_at (learned_routes xs) p)) (ap (λ q. is_eq (prefix_cmp p q)) (learned_prefix x y is) ∙ miss)

    by : (o : Ordering) → prefix_cmp p x.path.prefix ≡ o → route_at (learned_routes xs) p ≡ learned_at xs p
        → route_at (cons_option (learned_route x) (learned_routes xs)) p ≡ option_and_then learned_route (cond (is_eq o) (Some x) (best_for xs p))
    by Less e rest = elsewhere (ap is_eq e) (learned_route x) refl ∙ rest
    by Equal e rest = here e (learned_route x) refl
    by Greater e rest = elsewhere (ap is_eq e) (learned_route x) refl ∙ rest

-- it has a source that best paths give
is_by_path : (b : Best) → IfSome (learned_route b) (λ y. is_learned y.source ≡ true)
is_by_path b = by b.path.source
  where
    by : (s : PathSource) → IfSome (learned_by b s) (λ y. is_learned y.source ≡ true)
    by path.Network = tt
    by path.Connected = tt
    by path.Static = tt
    by path.Ospf = tt
    by path.External = refl
    by path.Internal = refl

by_paths : (paths : List Best) (p : Cidr) → IfSome (learned_at paths p) (λ y. is_learned y.source ≡ true)
by_paths paths p = by (best_for paths p)
  where
    by : (o : Option Best) → IfSome (option_and_then learned_route o) (λ y. is_learned y.source ≡ true)
    by None = tt
    by (Some b) = is_by_path b

-- ---- what is there for a prefix has it

pub has_prefix : (xs : List Route) (p : Cidr) (x : Route) → route_at xs p ≡ Some x → x.prefix ≡ p
has_prefix xs p x e = sym (same_is p x.prefix (found_passes (λ (y : Route). same_prefix p y.prefix) xs x e))

learned_has_prefix : (paths : List Best) (p : Cidr) (x : Route) → learned_at paths p ≡ Some x → x.prefix ≡ p
learned_has_prefix paths p x e = by (best_for paths p) refl e
  where
    by : (o : Option Best) → best_for paths p ≡ o → option_and_then learned_route o ≡ Some x → x.prefix ≡ p
    by None is e = absurd (none-some x e)
    by (Some b) is e = learned_prefix b x e ∙ sym (same_is p b.path.prefix (found_passes (λ (y : Best). same_prefix p y.path.prefix) paths b is))

pub both_have : (P : Route → Type 0) (a b : Option Route) → ((x : Route) → a ≡ Some x → P x) → ((x : Route) → b ≡ Some x → P x) → (x : Route) → of_both a b ≡ Some x → P x
both_have P None b f g x e = g x e
both_have P (Some y) None f g x e = f x e
both_have P (Some y) (Some z) f g x e = by (is_preferred z y) e
  where
    by : (c : Bool) → Some (cond c z y) ≡ Some x → P x
    by true e = g x e
    by false e = f x e

pub keeps : (own : List Route) (paths : List Best) (inside known : List Route) (p : Cidr) (x : Route) → mended_at own paths inside known p ≡ Some x → x.prefix ≡ p
keeps own paths inside known p x e = by (route_at known p) refl e
  where
    Has : Route → Type 0
    Has y = y.prefix ≡ p

    all : (x : Route) → of_all own (learned_at paths p) inside p ≡ Some x → x.prefix ≡ p
    all = both_have (λ y. y.prefix ≡ p) (of_both (route_at own p) (learned_at paths p)) (route_at inside p) (both_have (λ y. y.prefix ≡ p) (route_at own p) (learned_at paths p) (has_prefix own p) (learned_has_prefix paths p)) (has_prefix inside p)

    by : (o : Option Route) → route_at known p ≡ o → route_after own inside o (learned_at paths p) p ≡ Some x → x.prefix ≡ p
    by None is e = learned_has_prefix paths p x e
    by (Some y) is e = one (is_learned y.source) e
      where
        one : (c : Bool) → cond c (of_all own (learned_at paths p) inside p) (of_both (Some y) (learned_at paths p)) ≡ Some x → x.prefix ≡ p
        one true e = all x e
        one false e = both_have (λ z. z.prefix ≡ p) (Some y) (learned_at paths p) (λ z f. has_prefix known p z (is ∙ f)) (learned_has_prefix paths p) x e

-- ---- a router's own routes, those that it learned, and those by OSPF

module _ (own inside : List Route) (up-own : IsTable own) (up-inside : IsTable inside) where
  abbrev whole : List Best → List Route
  whole paths = merged (merged own (learned_routes paths)) inside

  first_two : (paths : List Best) → IsBestList paths → IsTable (merged own (learned_routes paths))
  first_two paths up = merged_in_order own (learned_routes paths) up-own (learned_in_order paths up)

  whole_in_order : (paths : List Best) → IsBestList paths → IsTable (whole paths)
  whole_in_order paths up = merged_in_order (merged own (learned_routes paths)) inside (first_two paths up) up-inside

  at_whole : (paths : List Best) → IsBestList paths → (p : Cidr) → route_at (whole paths) p ≡ of_all own (learned_at paths p) inside p
  at_whole paths up p =
      at_merged (merged own (learned_routes paths)) inside (first_two paths up) up-inside p
      ∙ ap (λ o. of_both o (route_at inside p)) (at_merged own (learned_routes paths) up-own (learned_in_order paths up) p ∙ ap (of_both (route_at own p)) (at_learned paths up p))

  -- by what the earlier table has there it is the same
  after_whole : (old new : List Best) → IsBestList old → (p : Cidr) → mended_at own new inside (whole old) p ≡ of_all own (learned_at new p) inside p
  after_whole old new up p =
      ap (λ o. route_after own inside o (learned_at new p) p) (at_whole old up p)
      ∙ known_stays own inside p (route_at own p) (learned_at old p) (route_at inside p) (learned_at new p) refl refl (by_paths old p) (by_paths new p)

  -- where the best paths of one state and of the next say the same off the prefixes that changed, so do the tables
  whole_by_changes : (old new : List Best) (changed : List Cidr) → IsBestList old → IsBestList new → IsStrictlySortedBy prefix_cmp changed → CoversChange changed old new
      → mended own new inside (whole old) changed ≡ whole new
  whole_by_changes old new changed up up' rises covers =
      let f : Cidr → Option Route = mended_at own new inside (whole old) in
      let kept : (p : Cidr) (x : Route) → f p ≡ Some x → prefix_of x ≡ p = keeps own new inside (whole old) in
      same_lists prefix_of (mended own new inside (whole old) changed) (whole new) (up_updated prefix_of f kept changed rises (whole old) (whole_in_order old up)) (whole_in_order new up')
      (λ p. at_updated prefix_of f kept changed rises (whole old) p ∙ by p (list_any (same_prefix p) changed) refl ∙ sym (at_whole new up' p))
    where
      by : (p : Cidr) (b : Bool) → list_any (same_prefix p) changed ≡ b → cond (list_any (same_prefix p) changed) (mended_at own new inside (whole old) p) (route_at (whole old) p) ≡ of_all own (learned_at new p) inside p
      by p true e = ap (λ b. cond b (mended_at own new inside (whole old) p) (route_at (whole old) p)) e ∙ after_whole old new up p
      by p false e =
          ap (λ b. cond b (mended_at own new inside (whole old) p) (route_at (whole old) p)) e ∙ at_whole old up p
          ∙ ap (λ o. of_all own (option_and_then learned_route o) inside p) (covers.elsewhere p e)

-- ---- the tables of a router of which all but the best paths stays

pub own_in_order : (r : ℕ) (file : RouterText) (old own : List Route) → own ≡ own_routes r file old → IsTable own
own_in_order r file old own is = subst IsTable (sym is) (merged_in_order (connected r file.interfaces) (static_routes (active_lines r file.interfaces (resolved old) file.static_routes)) (connected_is_table r file.interfaces) (static_is_table _))

no_paths : IsBestList []
unfolding IsStrictlySortedBy
no_paths = tt

module _ (internal : Internal) (r : ℕ) (file : RouterText) (mendable : IsMendable internal r file) (ordered : All IsTable internal.routes) where
  nothing_from_outside : (rows : List ExternalRow) → to_others internal r (external_routes internal rows r) ≡ []
  nothing_from_outside rows = ap (λ ways. to_others internal r (routes_over ways rows)) mendable.no_boundaries ∙ ap (to_others internal r) (nothing_outside rows)

  pub inside_in_order : IsTable (routes_of internal r)
  inside_in_order = at_in_order IsTable none_is_table internal.routes r ordered

  -- whatever the table before, and whatever others send
  beside_any : (rows : List ExternalRow) (old other : List Route) (paths : List Best) → IsBestList paths
      → table_after r file (learned_routes paths) (ospf_routes internal rows r) old ≡ merged (merged (own_routes r file other) (learned_routes paths)) (routes_of internal r)
  beside_any rows old other paths up =
      let c : List Route = connected r file.interfaces in
      let s : List Route = static_routes (active_lines r file.interfaces (resolved other) file.static_routes) in
      let l : List Route = learned_routes paths in
      let i : List Route = routes_of internal r in
      ap (λ o. best_routes (c ++ (static_routes (active_lines r file.interfaces (resolved old) file.static_routes) ++ (l ++ (i ++ o))))) (nothing_from_outside rows)
      ∙ ap (λ lines. best_routes (c ++ (static_routes lines ++ (l ++ (i ++ []))))) (none_asks r file.interfaces (resolved old) (resolved other) file.static_routes mendable.none_asks)
      ∙ sym (five_merged c s l i [] (connected_is_table r file.interfaces) (static_is_table _) (learned_in_order paths up) inside_in_order none_is_table)
      ∙ sym (with_none (merged (merged (merged c s) l) i) [] refl)

pub table_in_order : (state : List RouterState) (r : ℕ) → All IsRouterState state → IsTable (table_of state r)
table_in_order state r each = by (slice_get state r) refl
  where
    by : (o : Option RouterState) → slice_get state r ≡ o → IsTable (option_map_or (λ (s : RouterState). s.table) o [])
    by None is = none_is_table
    by (Some s) is = (known_in_order state r s each is).table

pub paths_in_order : (state : List RouterState) (r : ℕ) → All IsRouterState state → IsBestList (paths_of state r)
paths_in_order state r each = by (slice_get state r) refl
  where
    by : (o : Option RouterState) → slice_get state r ≡ o → IsBestList (option_map_or (λ (s : RouterState). s.paths) o [])
    by None is = no_paths
    by (Some s) is = (known_in_order state r s each is).paths

-- so is the next table of a router, where the state came from an earlier one
module _ (net : Network) (internal : Internal) (all : List (List Session)) (r : ℕ) (here : r < length net.routers) (these : all ≡ configured_sessions net internal.links) (ordered : All IsTable internal.routes) where
  pub changes_give_next : (state before : List RouterState) (file : RouterText) (rows : List ExternalRow) → state ≡ next_state net internal before → router_at net r ≡ Some file → IsMendable internal r file
      → (known paths : List Best) → IsBestList paths → paths_of state r ≡ known → IsBestList known → (changed : List Cidr) → IsStrictlySortedBy prefix_cmp changed → CoversChange changed known paths
      → mended (own_routes r file (table_of state r)) paths (routes_of internal r) (table_of state r) changed ≡ table_after r file (learned_routes paths) (ospf_routes internal rows r) (table_of state r)
  changes_give_next state before file rows made is mendable known paths up same up-known changed rises covers =
      let base : List Route = own_routes r file (table_of state r) in
      let inside : List Route = routes_of internal r in
      let was : table_of state r ≡ merged (merged base (learned_routes known)) inside =
      known_table net internal all r here state before made file is
      ∙ ap (λ ps. table_after r file (learned_routes ps) (ospf_routes internal (externals net before) r) (table_of before r)) (ap (λ ss. best_paths net ss before r) (sym these) ∙ sym (known_paths net internal all r here these state before made) ∙ same)
      ∙ beside_any internal r file mendable ordered (externals net before) (table_of before r) (table_of state r) known up-known in
      ap (λ t. mended base paths inside t changed) was
      ∙ whole_by_changes base inside (own_in_order r file (table_of state r) base refl) (inside_in_order internal r file mendable ordered) known paths changed up-known up rises covers
      ∙ sym (beside_any internal r file mendable ordered rows (table_of state r) (table_of state r) paths up)
