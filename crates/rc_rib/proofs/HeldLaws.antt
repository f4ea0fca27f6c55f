-- The best routes at an address are those of the candidates at it.
use Rattle.std.proofs.Common.{refl, ◌≡◌, ap, sym, ◌∙◌, ℕ, Bool, true, false, cond, List, [], ◌∷◌, ◌++◌, filter, map, Option, Some, None}
use Rattle.std.specs.List.{fold, filter_map, cons_option, AllByRecursion}
use Rattle.std.specs.List.Sorted.{IsStrictlySortedBy}
use Rattle.std.specs.BTreeMap.{insert_entry}
use Rattle.std.specs.BTreeSet.{insert_key}
use Rattle.std.specs.Ordering.{match_ordering}
use Rattle.std.specs.declared.cmp.Ordering.{Ordering}
use Rattle.std.specs.declared.cmp.Ordering.TheVariants.{Less, Equal, Greater}
use Rattle.rc_base.specs.Groups.{grouped, with_thing, under}
use Rattle.rc_base.specs.Lists.{in_order}
use Rattle.rc_base.specs.Prefix.{Cidr, contains, prefix_cmp, same_prefix}
use Rattle.rc_base.proofs.OrderedLaws.{prefix_cmp_total, same_by_prefix_cmp, all-weaker, sorted-insert}
use Rattle.rc_ospf.specs.Internal.{holding}
use Rattle.rc_route.specs.declared.route.Route.{Route}
use Rattle.rc_rib.specs.Best.{preferred, routes_at, best_routes}
use Rattle.rc_rib.specs.Offers.{prefix_of, offered}
use Rattle.rc_rib.proofs.BestLaws.{best_of_offers, preferred-prefix, same_by_test}

module _ (a : ℕ) where
  -- the prefixes that hold the address
  abbrev Held : List Cidr → List Cidr
  Held ks = filter (λ p. contains p a) ks

  -- ---- they stand in order as before

  all_held : (P : Cidr → Type 0) (ks : List Cidr) → AllByRecursion P ks → AllByRecursion P (Held ks)
  all_held P [] all = tt
  all_held P (k ∷ ks) all = by (contains k a) (all_held P ks all.1)
    where
      by : (b : Bool) → AllByRecursion P (Held ks) → AllByRecursion P (cond b (k ∷ Held ks) (Held ks))
      by true rest = (all.0, rest)
      by false rest = rest

  insert_first : (k : Cidr) (ks : List Cidr) → AllByRecursion (λ q. prefix_cmp k q ≡ Less) ks → insert_key prefix_cmp ks k ≡ k ∷ ks
  insert_first k [] below = refl
  insert_first k (x ∷ ks) below = ap (λ o. match_ordering o (k ∷ x ∷ ks) (x ∷ ks) (x ∷ insert_key prefix_cmp ks k)) below.0

  insert_held : (k : Cidr) (ks : List Cidr) → IsStrictlySortedBy prefix_cmp ks → Held (insert_key prefix_cmp ks k) ≡ cond (contains k a) (insert_key prefix_cmp (Held ks) k) (Held ks)
  unfolding IsStrictlySortedBy
  insert_held k [] up = refl
  insert_held k (x ∷ ks) up = by (prefix_cmp k x) refl (insert_held k ks up.1)
    where
      less : prefix_cmp k x ≡ Less → Held (k ∷ x ∷ ks) ≡ cond (contains k a) (insert_key prefix_cmp (Held (x ∷ ks)) k) (Held (x ∷ ks))
      less is =
          let below : AllByRecursion (λ q. prefix_cmp k q ≡ Less) (x ∷ ks) = (is, all-weaker (λ q. prefix_cmp x q ≡ Less) (λ q. prefix_cmp k q ≡ Less) (λ q then. prefix_cmp_total.trans k x q is then) ks up.0) in
          sym (ap (λ t. cond (contains k a) t (Held (x ∷ ks))) (insert_first k (Held (x ∷ ks)) (all_held (λ q. prefix_cmp k q ≡ Less) (x ∷ ks) below)))

      equal : prefix_cmp k x ≡ Equal → (b : Bool) → contains k a ≡ b → Held (x ∷ ks) ≡ cond b (insert_key prefix_cmp (Held (x ∷ ks)) k) (Held (x ∷ ks))
      equal is false at = refl
      equal is true at =
          let here : contains x a ≡ true = sym (ap (λ p. contains p a) (same_by_prefix_cmp k x is)) ∙ at in
          let held : Held (x ∷ ks) ≡ x ∷ Held ks = ap (λ c. cond c (x ∷ Held ks) (Held ks)) here in
          sym (ap (λ t. insert_key prefix_cmp t k) held ∙ ap (λ o. match_ordering o (k ∷ x ∷ Held ks) (x ∷ Held ks) (x ∷ insert_key prefix_cmp (Held ks) k)) is ∙ sym held)

      pick : prefix_cmp k x ≡ Greater → (c b : Bool)
          → cond c (x ∷ cond b (insert_key prefix_cmp (Held ks) k) (Held ks)) (cond b (insert_key prefix_cmp (Held ks) k) (Held ks)) ≡ cond b (insert_key prefix_cmp (cond c (x ∷ Held ks) (Held ks)) k) (cond c (x ∷ Held ks) (Held ks))
      pick is true true = sym (ap (λ o. match_ordering o (k ∷ x ∷ Held ks) (x ∷ Held ks) (x ∷ insert_key prefix_cmp (Held ks) k)) is)
      pick is true false = refl
      pick is false true = refl
      pick is false false = refl

      by : (o : Ordering) → prefix_cmp k x ≡ o → Held (insert_key prefix_cmp ks k) ≡ cond (contains k a) (insert_key prefix_cmp (Held ks) k) (Held ks)
          → Held (match_ordering o (k ∷ x ∷ ks) (x ∷ ks) (x ∷ insert_key prefix_cmp ks k)) ≡ cond (contains k a) (insert_key prefix_cmp (Held (x ∷ ks)) k) (Held (x ∷ ks))
      by Less is rest = less is
      by Equal is rest = equal is (contains k a) refl
      by Greater is rest = ap (λ t. cond (contains x a) (x ∷ t) t) rest ∙ pick is (contains x a) (contains k a)

  held_from : (front ks : List Cidr) → IsStrictlySortedBy prefix_cmp front → Held (fold (insert_key prefix_cmp) front ks) ≡ fold (insert_key prefix_cmp) (Held front) (Held ks)
  held_from front [] up = refl
  held_from front (k ∷ ks) up =
      held_from (insert_key prefix_cmp front k) ks (sorted-insert prefix_cmp prefix_cmp_total k front up)
      ∙ ap (λ t. fold (insert_key prefix_cmp) t (Held ks)) (insert_held k front up) ∙ by (contains k a)
    where
      by : (b : Bool) → fold (insert_key prefix_cmp) (cond b (insert_key prefix_cmp (Held front) k) (Held front)) (Held ks) ≡ fold (insert_key prefix_cmp) (Held front) (cond b (k ∷ Held ks) (Held ks))
      by true = refl
      by false = refl

  held_in_order : (ks : List Cidr) → Held (in_order prefix_cmp ks) ≡ in_order prefix_cmp (Held ks)
  unfolding IsStrictlySortedBy
  held_in_order ks = held_from [] ks tt

  held_prefixes : (xs : List Route) → Held (map prefix_of xs) ≡ map prefix_of (holding a xs)
  held_prefixes [] = refl
  held_prefixes (x ∷ xs) = ap (λ t. cond (contains x.prefix a) (x.prefix ∷ t) t) (held_prefixes xs) ∙ by (contains x.prefix a)
    where
      by : (b : Bool) → cond b (x.prefix ∷ map prefix_of (holding a xs)) (map prefix_of (holding a xs)) ≡ map prefix_of (cond b (x ∷ holding a xs) (holding a xs))
      by true = refl
      by false = refl

  -- ---- each has the same routes

  held_at : (p : Cidr) → contains p a ≡ true → (cs : List Route) → routes_at p (holding a cs) ≡ routes_at p cs
  held_at p there [] = refl
  held_at p there (c ∷ cs) = by (same_prefix p c.prefix) (contains c.prefix a) refl refl (held_at p there cs)
    where
      by : (s b : Bool) → same_prefix p c.prefix ≡ s → contains c.prefix a ≡ b → routes_at p (holding a cs) ≡ routes_at p cs → routes_at p (cond b (c ∷ holding a cs) (holding a cs)) ≡ cond s (c ∷ routes_at p cs) (routes_at p cs)
      by true true same at rest = ap (λ s. cond s (c ∷ routes_at p (holding a cs)) (routes_at p (holding a cs))) same ∙ ap (λ t. c ∷ t) rest
      by true false same at rest = (let here : contains c.prefix a ≡ true = ap (λ q. contains q a) (same_by_test p c.prefix same) ∙ there in absurd (let no : false ≡ true = sym at ∙ here in cc))
      by false true same at rest = ap (λ s. cond s (c ∷ routes_at p (holding a cs)) (routes_at p (holding a cs))) same ∙ rest
      by false false same at rest = rest

  module _ (cs : List Route) where
    each_held : (ks : List Cidr) → holding a (filter_map (λ p. preferred (routes_at p cs)) ks) ≡ filter_map (λ p. preferred (routes_at p (holding a cs))) (Held ks)
    each_held [] = refl
    each_held (k ∷ ks) = by (contains k a) refl (preferred (routes_at k cs)) refl (each_held ks)
      where
        by : (b : Bool) → contains k a ≡ b → (o : Option Route) → preferred (routes_at k cs) ≡ o
            → holding a (filter_map (λ p. preferred (routes_at p cs)) ks) ≡ filter_map (λ p. preferred (routes_at p (holding a cs))) (Held ks)
            → holding a (cons_option o (filter_map (λ p. preferred (routes_at p cs)) ks)) ≡ filter_map (λ p. preferred (routes_at p (holding a cs))) (cond b (k ∷ Held ks) (Held ks))
        by true at None is rest =
            rest ∙ sym (ap (λ o. cons_option o (filter_map (λ p. preferred (routes_at p (holding a cs))) (Held ks))) (ap preferred (held_at k at cs) ∙ is))
        by true at (Some x) is rest =
            ap (λ c. cond c (x ∷ holding a (filter_map (λ p. preferred (routes_at p cs)) ks)) (holding a (filter_map (λ p. preferred (routes_at p cs)) ks))) (ap (λ p. contains p a) (preferred-prefix cs k x is) ∙ at)
            ∙ ap (λ t. x ∷ t) rest
            ∙ sym (ap (λ o. cons_option o (filter_map (λ p. preferred (routes_at p (holding a cs))) (Held ks))) (ap preferred (held_at k at cs) ∙ is))
        by false at None is rest = rest
        by false at (Some x) is rest =
            ap (λ c. cond c (x ∷ holding a (filter_map (λ p. preferred (routes_at p cs)) ks)) (holding a (filter_map (λ p. preferred (routes_at p cs)) ks))) (ap (λ p. contains p a) (preferred-prefix cs k x is) ∙ at)
            ∙ rest

    pub held_best : holding a (best_routes cs) ≡ best_routes (holding a cs)
    unfolding best_routes
    held_best =
        each_held (in_order prefix_cmp (map prefix_of cs))
        ∙ ap (filter_map (λ p. preferred (routes_at p (holding a cs)))) (held_in_order (map prefix_of cs) ∙ ap (in_order prefix_cmp) (held_prefixes cs))

  -- ---- candidates one behind another

  pub held_append : (xs ys : List Route) → holding a (xs ++ ys) ≡ holding a xs ++ holding a ys
  held_append [] ys = refl
  held_append (x ∷ xs) ys = ap (λ t. cond (contains x.prefix a) (x ∷ t) t) (held_append xs ys) ∙ by (contains x.prefix a)
    where
      by : (b : Bool) → cond b (x ∷ (holding a xs ++ holding a ys)) (holding a xs ++ holding a ys) ≡ cond b (x ∷ holding a xs) (holding a xs) ++ holding a ys
      by true = refl
      by false = refl

  held_again : (xs : List Route) → holding a (holding a xs) ≡ holding a xs
  held_again [] = refl
  held_again (x ∷ xs) = by (contains x.prefix a) refl (held_again xs)
    where
      by : (b : Bool) → contains x.prefix a ≡ b → holding a (holding a xs) ≡ holding a xs → holding a (cond b (x ∷ holding a xs) (holding a xs)) ≡ cond b (x ∷ holding a xs) (holding a xs)
      by true at rest = ap (λ c. cond c (x ∷ holding a (holding a xs)) (holding a (holding a xs))) at ∙ ap (λ t. x ∷ t) rest
      by false at rest = rest

  -- some of the candidates may be those at the address alone
  pub held_among : (c s l o e : List Route) → holding a (best_routes (c ++ (s ++ (l ++ (o ++ e))))) ≡ holding a (best_routes (c ++ (s ++ (l ++ (holding a o ++ e)))))
  held_among c s l o e = held_best (c ++ (s ++ (l ++ (o ++ e)))) ∙ ap best_routes (apart o ∙ ap (λ t. holding a c ++ (holding a s ++ (holding a l ++ (t ++ holding a e)))) (sym (held_again o)) ∙ sym (apart (holding a o))) ∙ sym (held_best (c ++ (s ++ (l ++ (holding a o ++ e)))))
    where
      apart : (o : List Route) → holding a (c ++ (s ++ (l ++ (o ++ e)))) ≡ holding a c ++ (holding a s ++ (holding a l ++ (holding a o ++ holding a e)))
      apart o =
          held_append c (s ++ (l ++ (o ++ e)))
          ∙ ap (λ t. holding a c ++ t) (held_append s (l ++ (o ++ e)) ∙ ap (λ t. holding a s ++ t) (held_append l (o ++ e) ∙ ap (λ t. holding a l ++ t) (held_append o e)))

-- ---- without a best route there is no candidate

abbrev Rows : Type 0
Rows = List (Cidr × Route)

some_stay : (e : Cidr × Route) (rows : Rows) (ys : List Route) → fold (with_thing prefix_of offered) (e ∷ rows) ys ≡ [] → ⊥
some_stay e rows [] none = absurd (cc)
some_stay e rows (y ∷ ys) none = by (prefix_cmp y.prefix e.0) (λ f rest. some_stay f rest ys) none
  where
    v : Route
    v = offered (under (e ∷ rows) y.prefix) y

    by : (o : Ordering) → ((f : Cidr × Route) (rest : Rows) → fold (with_thing prefix_of offered) (f ∷ rest) ys ≡ [] → ⊥)
        → fold (with_thing prefix_of offered) (match_ordering o ((y.prefix, v) ∷ e ∷ rows) ((e.0, v) ∷ rows) (e ∷ insert_entry prefix_cmp rows y.prefix v)) ys ≡ [] → ⊥
    by Less stays none = stays (y.prefix, v) (e ∷ rows) none
    by Equal stays none = stays (e.0, v) rows none
    by Greater stays none = stays e (insert_entry prefix_cmp rows y.prefix v) none

none_mapped : (rows : Rows) → map (λ (row : Cidr × Route). row.1) rows ≡ [] → rows ≡ []
none_mapped [] none = refl
none_mapped (e ∷ es) none = absurd (cc)

none_best : (cs : List Route) → best_routes cs ≡ [] → cs ≡ []
none_best [] none = refl
none_best (c ∷ cs) none = absurd (some_stay (c.prefix, c) [] cs (none_mapped (grouped prefix_of offered (c ∷ cs)) (best_of_offers (c ∷ cs) ∙ none)))

none_front : (xs ys : List Route) → xs ++ ys ≡ [] → xs ≡ []
none_front [] ys none = refl
none_front (x ∷ xs) ys none = absurd (cc)

none_behind : (xs ys : List Route) → xs ++ ys ≡ [] → ys ≡ []
none_behind [] ys none = none
none_behind (x ∷ xs) ys none = absurd (cc)

-- then none is left where some candidates are those at an address alone
pub none_among : (a : ℕ) (c s l o e : List Route) → best_routes (c ++ (s ++ (l ++ (o ++ e)))) ≡ [] → best_routes (c ++ (s ++ (l ++ (holding a o ++ e)))) ≡ []
none_among a c s l o e none =
    let all = none_best (c ++ (s ++ (l ++ (o ++ e)))) none in
    let behind_c = none_behind c (s ++ (l ++ (o ++ e))) all in
    let behind_s = none_behind s (l ++ (o ++ e)) behind_c in
    let behind_l = none_behind l (o ++ e) behind_s in
    let no_o : o ≡ [] = none_front o e behind_l in
    sym (ap (λ t. best_routes (c ++ (s ++ (l ++ (t ++ e))))) (no_o ∙ sym (ap (holding a) no_o))) ∙ none
