-- What the workers of a round make, put together.
use Rattle.std.proofs.Common.{◌≡◌, ℕ, zero, suc, ◌+◌, ◌-◌, ◌≤◌, ◌<◌, ◌==◌, Bool, true, Option, Some, None, List, [], ◌∷◌, ◌++◌, length, map, refl, sym, ap, subst, ◌∙◌, arith, All}
use Rattle.std.specs.List.{AllByRecursion, range_with_len}
use Rattle.std.specs.Option.{option_map_or}
use Rattle.std.specs.List.Sorted.{IsStrictlySortedBy}
use Rattle.std.proofs.lemmas.List.Elements.{All-from_recursion, All-map}
use Rattle.std.proofs.lemmas.List.FromFn.{map-range_with_len_more, length-map-range_with_len}
use Rattle.std.specs.Prelude.{slice_get}
use Rattle.std.proofs.lemmas.Bool.{and_parts}
use Rattle.std.proofs.lemmas.Bool.Decides.{Decides-eqb}
use Rattle.std.proofs.lemmas.List.{nil_from_length}
use Rattle.std.proofs.lemmas.Option.{same_Some, slice_get_past}
use Rattle.rc_base.specs.Prefix.{Cidr}
use Rattle.rc_bgp.specs.Changes.{AreChanges, CoversChange, changes_of}
use Rattle.rc_bgp.specs.RouterStates.{paths_of}
use Rattle.rc_config.specs.declared.network.Network.{Network}
use Rattle.rc_ospf.specs.declared.model.Internal.{Internal}
use Rattle.rc_route.specs.declared.state.RouterState.{RouterState}
use Rattle.rc_rib.specs.Next.{next_router, next_state}
use Rattle.rc_rib.specs.declared.made.Made.{Made}
use Rattle.rc_route.specs.Tables.{IsRouterState, IsStateOf, best_for}
use Rattle.rc_rounds.specs.Rounds.{empty_state}
use Rattle.rc_reads.proofs.StayedLaws.{stays}
use Rattle.rc_reads.specs.Stayed.{AreFlagged, IsMade}
use Rattle.rc_rounds.specs.Renewing.{has_stayed}
use Rattle.rc_shares.specs.Stretches.{IsStretch}
use Rattle.rc_shares.proofs.StretchLaws.{stretch_up}

-- ---- states in order

-- so many routers that know nothing
pub empty_states : ℕ → List RouterState
empty_states n = map (λ _. record { table = []; paths = [] }) (range_with_len 0 n)

pub empty_states-none : empty_states 0 ≡ []
unfolding empty_states
empty_states-none = refl

pub empty_states-more : (n : ℕ) → empty_states (n + 1) ≡ empty_states n ++ record { table = []; paths = [] } ∷ []
unfolding empty_states
empty_states-more n = map-range_with_len_more (λ _. record { table = []; paths = [] }) 0 n n (omega arith)

pub empty_states-all : (net : Network) → empty_states (length net.routers) ≡ empty_state net
unfolding empty_states
empty_states-all net = refl

pub nothing-in_order : IsRouterState (record { table = []; paths = [] })
unfolding IsStrictlySortedBy
nothing-in_order = record { table = tt; paths = tt }

pub empty-in_order : (net : Network) → IsStateOf (length net.routers) (empty_state net)
empty-in_order net = record {
  as_long = length-map-range_with_len (λ _. record { table = []; paths = [] }) 0 (length net.routers);
  each = All-map IsRouterState (λ _. record { table = []; paths = [] }) (range_with_len 0 (length net.routers)) (λ k d less. nothing-in_order);
}

-- ---- what is made of all routers is the next state, in order, and what changed

module _ (net : Network) (internal : Internal) (old : List RouterState) where
  abbrev Makes : ℕ → Made → Type 0
  Makes = IsMade net internal old

  abbrev states : List Made → List RouterState
  states all = map (λ (m : Made). m.state) all

  abbrev told : List Made → List (List Cidr)
  told all = map (λ (m : Made). m.changed) all

  states_are : (a b : ℕ) (all : List Made) → IsStretch Makes a b all → states all ≡ map (next_router net internal old) (range_with_len a (b - a))
  unfolding IsStretch
  states_are a b [] is = (let none : b - a ≡ 0 = omega (arith, is) in sym (ap (λ n. map (next_router net internal old) (range_with_len a n)) none))
  states_are a b (m ∷ ms) is =
      let up = stretch_up Makes (a + 1) b ms is.1 in
      let more : b - a ≡ suc (b - (a + 1)) = omega (arith, up) in
      (λ i. is.0.state i ∷ states_are (a + 1) b ms is.1 i) ∙ sym (ap (λ n. map (next_router net internal old) (range_with_len a n)) more)

  pub all_made : (all : List Made) (state : List RouterState) → IsStretch Makes 0 (length net.routers) all → state ≡ states all → state ≡ next_state net internal old
  all_made all state is parts =
      let e : length net.routers - 0 ≡ length net.routers = omega arith in
      parts ∙ states_are 0 (length net.routers) all is ∙ ap (λ n. map (next_router net internal old) (range_with_len 0 n)) e

  each_in_order : (a b : ℕ) (all : List Made) → IsStretch Makes a b all → AllByRecursion IsRouterState (states all)
  unfolding IsStretch
  each_in_order a b [] is = tt
  each_in_order a b (m ∷ ms) is = (is.0.in_order, each_in_order (a + 1) b ms is.1)

  pub all_in_order : (all : List Made) (state : List RouterState) → IsStretch Makes 0 (length net.routers) all → state ≡ states all → IsStateOf (length net.routers) state
  all_in_order all state is parts = record {
    as_long = ap length (all_made all state is parts) ∙ length-map-range_with_len (next_router net internal old) 0 (length net.routers);
    each = subst (All IsRouterState) (sym parts) (All-from_recursion IsRouterState (states all) (each_in_order 0 (length net.routers) all is));
  }

  past : (k : ℕ) → length old ≤ k → paths_of old k ≡ []
  past k beyond = ap (λ o. option_map_or (λ (s : RouterState). s.paths) o []) (slice_get_past old k beyond)

  -- the router at a place of a stretch
  told_from : (a b : ℕ) (all : List Made) → IsStretch Makes a b all → length old ≡ b → (k : ℕ) → CoversChange (changes_of (told all) k) (paths_of old (a + k)) (paths_of (states all) k)
  unfolding IsStretch
  told_from a b [] is as_long k = record { elsewhere = λ p none. ap (λ paths. best_for paths p) (past (a + k) (omega (arith, is, as_long))) }
  told_from a b (m ∷ ms) is as_long zero = (let e : a + 0 ≡ a = omega arith in subst (λ r. CoversChange m.changed (paths_of old r) m.state.paths) (sym e) is.0.changed)
  told_from a b (m ∷ ms) is as_long (suc k) =
      let e : a + 1 + k ≡ a + suc k = omega arith in
      subst (λ r. CoversChange (changes_of (told ms) k) (paths_of old r) (paths_of (states ms) k)) e (told_from (a + 1) b ms is.1 as_long k)

  within : {X : Type 0} (xs : List X) (k : ℕ) → k < length xs → slice_get xs k ≡ None → ⊥
  within [] k less none = absurd (omega arith)
  within (x ∷ xs) zero less none = absurd (cc)
  within (x ∷ xs) (suc k) less none = within xs k (omega arith) none

  module _ (ordered : All IsRouterState old) where
    -- flags are set only for who knows the same
    one_flagged : (r : ℕ) (m : Made) → r < length old → Makes r m → has_stayed m ≡ true → slice_get old r ≡ Some m.state
    one_flagged r m less is set = by (slice_get old r) refl
      where
        parts : (m.has_same_table ≡ true) × ((length m.changed == 0) ≡ true)
        parts = and_parts m.has_same_table (length m.changed == 0) set

        none : m.changed ≡ []
        none = (let no_more : length m.changed ≡ 0 = (Decides-eqb (length m.changed) 0).0 parts.1 in nil_from_length m.changed no_more)

        by : (o : Option RouterState) → slice_get old r ≡ o → o ≡ Some m.state
        by None e = absurd (within old r less e)
        by (Some known) e = ap Some (stays old r m.state known m.changed ordered e is.in_order (is.same_table parts.0) is.changed none)

    flagged_from : (a b : ℕ) (all : List Made) → IsStretch Makes a b all → length old ≡ b → (k : ℕ) → slice_get (map has_stayed all) k ≡ Some true → slice_get old (a + k) ≡ slice_get (states all) k
    unfolding IsStretch
    flagged_from a b [] is as_long k set = absurd (cc)
    flagged_from a b (m ∷ ms) is as_long zero set =
        let up = stretch_up Makes (a + 1) b ms is.1 in
        let e : a + 0 ≡ a = omega arith in
        subst (λ r. slice_get old r ≡ Some m.state) (sym e) (one_flagged a m (omega (arith, as_long, up)) is.0 (same_Some (has_stayed m) true set))
    flagged_from a b (m ∷ ms) is as_long (suc k) set =
        let e : a + 1 + k ≡ a + suc k = omega arith in
        subst (λ r. slice_get old r ≡ slice_get (states ms) k) e (flagged_from (a + 1) b ms is.1 as_long k set)

  pub all_flagged : (all : List Made) (state : List RouterState) (flags : List Bool) → IsStretch Makes 0 (length net.routers) all → IsStateOf (length net.routers) old → state ≡ states all → flags ≡ map has_stayed all → AreFlagged flags old state
  all_flagged all state flags is ordered parts set r flag =
      let e : 0 + r ≡ r = omega arith in
      subst (λ k. slice_get old k ≡ slice_get state r) e (flagged_from ordered.each 0 (length net.routers) all is ordered.as_long r (ap (λ fs. slice_get fs r) (sym set) ∙ flag) ∙ ap (λ s. slice_get s r) (sym parts))

  pub all_told : (all : List Made) (state : List RouterState) (changes : List (List Cidr)) → IsStretch Makes 0 (length net.routers) all → IsStateOf (length net.routers) old → state ≡ states all → changes ≡ told all → AreChanges changes old state
  all_told all state changes is ordered parts changed = record {
    each = λ r. (let e : 0 + r ≡ r = omega arith in
        subst (λ k. CoversChange (changes_of changes r) (paths_of old k) (paths_of state r)) e
        (subst (λ c. CoversChange (changes_of c r) (paths_of old (0 + r)) (paths_of state r)) (sym changed)
        (subst (λ s. CoversChange (changes_of (told all) r) (paths_of old (0 + r)) (paths_of s r)) (sym parts) (told_from 0 (length net.routers) all is ordered.as_long r))));
  }
