-- A router in whose best paths nothing changed, and whose table is the same, knows the same.
use Rattle.std.proofs.Common.{refl, ◌≡◌, ap, sym, ◌∙◌, subst, ℕ, zero, suc, ◌+◌, ◌<◌, Bool, true, false, cond, ◌||◌, List, [], ◌∷◌, ◌++◌, All, map, Option, Some, None, IfSome, length, arith}
use Rattle.std.specs.Prelude.{slice_get}
use Rattle.std.specs.List.{AllByRecursion, find, list_any, range_with_len}
use Rattle.std.specs.List.Sorted.{IsStrictlySortedBy}
use Rattle.std.specs.Option.{option_map, option_map_or}
use Rattle.std.specs.Ordering.{is_eq, ordering_reverse}
use Rattle.std.specs.declared.cmp.Ordering.{Ordering}
use Rattle.std.specs.declared.cmp.Ordering.TheVariants.{Less, Equal, Greater}
use Rattle.std.proofs.lemmas.Option.{same_Some, slice_get_within, slice_get-get_or, slice_get-map, get_or_from_slice_get}
use Rattle.std.proofs.lemmas.List.FromFn.{length-range_with_len, get_or-range_with_len}
use Rattle.rc_base.specs.Prefix.{Cidr, prefix_cmp, same_prefix}
use Rattle.rc_base.proofs.GroupLaws.{same_itself}
use Rattle.rc_base.proofs.OrderedLaws.{all-weaker, prefix_cmp_total, same_by_prefix_cmp}
use Rattle.rc_bgp.specs.Changes.{CoversChange}
use Rattle.rc_bgp.specs.RouterStates.{paths_of, table_of}
use Rattle.rc_bgp.specs.Sessions.{configured_sessions}
use Rattle.rc_bgp_session.specs.declared.session.Session.{Session}
use Rattle.rc_bgp.proofs.PrefixLaws.{none_later}
use Rattle.rc_config.specs.Members.{router_ids}
use Rattle.rc_config.specs.declared.network.Network.{Network}
use Rattle.rc_ospf.specs.declared.model.Internal.{Internal}
use Rattle.rc_rib.specs.Next.{next_router, next_state}
use Rattle.rc_route.specs.Tables.{IsRouterState, best_for}
use Rattle.rc_route.specs.declared.best.Best.{Best}
use Rattle.rc_route.specs.declared.state.RouterState.{RouterState}
use Rattle.rc_reads.specs.Stayed.{HaveStayed, ReadsTheSame}
use Rattle.rc_reads.specs.declared.stayed.Stayed.{Stayed}
use Rattle.rc_reads.proofs.ReadLaws.{reads_same}

-- ---- lists in order that say the same of each prefix are one

module _ {A : Type 0} (prefix_of : A → Cidr) where
  abbrev IsUp : List A → Type 0
  IsUp xs = IsStrictlySortedBy prefix_cmp (map prefix_of xs)

  abbrev said : Cidr → List A → Option A
  said p xs = find (λ x. same_prefix p (prefix_of x)) xs

  said_first : (x : A) (xs : List A) → said (prefix_of x) (x ∷ xs) ≡ Some x
  said_first x xs = ap (λ o. cond (is_eq o) (Some x) (said (prefix_of x) xs)) (same_itself (prefix_of x))

  unsaid : (p : Cidr) (x : A) (xs : List A) → prefix_cmp p (prefix_of x) ≡ Less → AllByRecursion (λ q. prefix_cmp (prefix_of x) q ≡ Less) (map prefix_of xs) → said p (x ∷ xs) ≡ None
  unsaid p x xs less all = none_later prefix_of p (x ∷ xs) (less, all-weaker (λ r. prefix_cmp (prefix_of x) r ≡ Less) (λ r. prefix_cmp p r ≡ Less) (λ r is. prefix_cmp_total.trans p (prefix_of x) r less is) (map prefix_of xs) all)

  none_first : (x : A) → Some x ≡ None → ⊥
  none_first x e = absurd (cc)

  pub one_list : (xs ys : List A) → IsUp xs → IsUp ys → ((p : Cidr) → said p xs ≡ said p ys) → xs ≡ ys
  unfolding IsStrictlySortedBy
  one_list [] [] up up' same = refl
  one_list [] (y ∷ ys) up up' same = absurd (none_first y (sym (same (prefix_of y) ∙ said_first y ys)))
  one_list (x ∷ xs) [] up up' same = absurd (none_first x (sym (said_first x xs) ∙ same (prefix_of x)))
  one_list (x ∷ xs) (y ∷ ys) up up' same = by (prefix_cmp (prefix_of x) (prefix_of y)) refl (one_list xs ys up.1 up'.1)
    where
      rest_same : prefix_of x ≡ prefix_of y → (q : Cidr) → said q xs ≡ said q ys
      rest_same is q = one (is_eq (prefix_cmp q (prefix_of x))) refl
        where
          one : (b : Bool) → is_eq (prefix_cmp q (prefix_of x)) ≡ b → said q xs ≡ said q ys
          one false e =
              ap (λ b. cond b (Some x) (said q xs)) (sym e) ∙ same q ∙ ap (λ r. cond (is_eq (prefix_cmp q r)) (Some y) (said q ys)) (sym is) ∙ ap (λ b. cond b (Some y) (said q ys)) e
          one true e =
              let here : q ≡ prefix_of x = same_by_prefix_cmp q (prefix_of x) (equal_by (prefix_cmp q (prefix_of x)) e) in
              ap (λ r. said r xs) here ∙ none_later prefix_of (prefix_of x) xs up.0 ∙ sym (ap (λ r. said r ys) (here ∙ is) ∙ none_later prefix_of (prefix_of y) ys up'.0)
            where
              equal_by : (o : Ordering) → is_eq o ≡ true → o ≡ Equal
              equal_by Equal e = refl
              equal_by Less e = absurd (cc)
              equal_by Greater e = absurd (cc)

      by : (o : Ordering) → prefix_cmp (prefix_of x) (prefix_of y) ≡ o → (((p : Cidr) → said p xs ≡ said p ys) → xs ≡ ys) → x ∷ xs ≡ y ∷ ys
      by Less e rest = absurd (none_first x (sym (said_first x xs) ∙ same (prefix_of x) ∙ unsaid (prefix_of x) y ys e up'.0))
      by Greater e rest =
          let less : prefix_cmp (prefix_of y) (prefix_of x) ≡ Less = prefix_cmp_total.antisymm (prefix_of y) (prefix_of x) ∙ ap ordering_reverse e in
          absurd (none_first y (sym (said_first y ys) ∙ sym (same (prefix_of y)) ∙ unsaid (prefix_of y) x xs less up.0))
      by Equal e rest =
          let keys : prefix_of x ≡ prefix_of y = same_by_prefix_cmp (prefix_of x) (prefix_of y) e in
          let values : x ≡ y = same_Some x y (sym (said_first x xs) ∙ same (prefix_of x) ∙ ap (λ p. said p (y ∷ ys)) keys ∙ said_first y ys) in
          let others : xs ≡ ys = rest (rest_same keys) in
          λ i. values i ∷ others i

-- ---- one router

pub in_state : (state : List RouterState) (r : ℕ) (s : RouterState) → All IsRouterState state → slice_get state r ≡ Some s → IsRouterState s
in_state state r s all is = subst IsRouterState (get_or_from_slice_get state r s s is) (all r s (slice_get_within state r s is))

-- a router that is made, with the same table, and in whose best paths nothing changed, knows what it knew
pub stays : (state : List RouterState) (r : ℕ) (s known : RouterState) (changed : List Cidr) → All IsRouterState state → slice_get state r ≡ Some known → IsRouterState s → s.table ≡ table_of state r → CoversChange changed (paths_of state r) s.paths → changed ≡ [] → known ≡ s
stays state r s known changed ordered is own same covers none =
    let paths_of_it : Option RouterState → List Best = λ o. option_map_or (λ (t : RouterState). t.paths) o [] in
    let tables : known.table ≡ s.table = sym (ap (λ o. option_map_or (λ (t : RouterState). t.table) o []) is) ∙ sym same in
    let paths : known.paths ≡ s.paths =
    one_list (λ (b : Best). b.path.prefix) known.paths s.paths (in_state state r known ordered is).paths own.paths
    (λ p. ap (λ o. best_for (paths_of_it o) p) (sym is) ∙ covers.elsewhere p (ap (list_any (same_prefix p)) none))
    in
    λ i. record { table = tables i; paths = paths i }

-- the same paths say the same
pub nothing_moved : (state : List RouterState) (r : ℕ) (s : RouterState) (paths : List Best) (changed : List Cidr) → slice_get state r ≡ Some s → paths ≡ s.paths → CoversChange changed (paths_of state r) paths
nothing_moved state r s paths changed known same = record { elsewhere = λ p none. ap (λ l. best_for l p) (ap (λ o. option_map_or (λ (t : RouterState). t.paths) o []) known ∙ sym same) }

pub some_weaker : {X : Type 0} (P Q : X → Type 0) (o : Option X) → ((x : X) → P x → Q x) → IfSome o P → IfSome o Q
some_weaker P Q None f h = tt
some_weaker P Q (Some x) f h = f x h

-- ---- once more

pub once_more : (net : Network) (internal : Internal) (all : List (List Session)) (r : ℕ) (stayed : Stayed) (old now : List RouterState) (s : RouterState) → all ≡ configured_sessions net internal.links → r < length net.routers → HaveStayed net stayed old now
    → now ≡ next_state net internal old → ReadsTheSame internal all stayed r → slice_get now r ≡ Some s → s ≡ next_router net internal now r
once_more net internal all r stayed old now s these here have made reads known =
    same_Some s (next_router net internal old r) (sym known ∙ ap (λ state. slice_get state r) made ∙ slice_get-map (next_router net internal old) (router_ids net) r ∙ ap (option_map (next_router net internal old)) numbered)
    ∙ reads_same net stayed old now have internal all r these here reads
  where
    numbered : slice_get (range_with_len 0 (length net.routers)) r ≡ Some r
    numbered = slice_get-get_or (range_with_len 0 (length net.routers)) r 0 (omega (arith, here, length-range_with_len 0 (length net.routers))) ∙ ap Some (get_or-range_with_len 0 (length net.routers) r 0 here ∙ (let e : 0 + r ≡ r = omega arith in e))
