-- Tables that are prepared one after another are those of the fixed point, where no router reads what any knows.
use Rattle.std.proofs.Common.{refl, ◌≡◌, ◌≢◌, ◌⊎◌, inl, inr, ap, sym, ◌∙◌, subst, ℕ, zero, suc, ◌+◌, ◌≤◌, List, [], ◌∷◌, length, map, All, Bool, true, false, arith}
use Rattle.std.specs.Prelude.{◌==◌, if◌then◌else◌}
use Rattle.std.specs.List.{fold, range_with_len}
use Rattle.std.proofs.lemmas.Bool.{cases_eq, ne_eqb}
use Rattle.std.proofs.lemmas.List.Elements.{All-cons}
use Rattle.rc_config.specs.Members.{router_ids}
use Rattle.rc_config.specs.declared.network.Network.{Network}
use Rattle.rc_fib.specs.Entries.{IsFib}
use Rattle.rc_fib.specs.Entry.{Entry}
use Rattle.rc_fib.specs.Forwarding.{resolved}
use Rattle.rc_moves.proofs.PlaneLaws.{are_prepared, routes_counted}
use Rattle.rc_moves.specs.Moves.{ArePrepared, route_count, tables_of}
use Rattle.rc_ospf.specs.Grounds.{AreGrounds, without_routes}
use Rattle.rc_ospf.specs.Internal.{IsInternal, routes_of}
use Rattle.rc_ospf.specs.declared.grounds.Grounds.{Grounds}
use Rattle.rc_ospf.specs.declared.model.Internal.{Internal}
use Rattle.rc_rib.proofs.LoneLaws.{state_alone}
use Rattle.rc_rib.specs.Again.{AllReadNothing, ReadsNothing}
use Rattle.rc_rib.specs.Lone.{lone_table}
use Rattle.rc_rib.specs.Next.{next_state}
use Rattle.rc_rounds.proofs.KnownLaws.{ends_first, ends_fixed}
use Rattle.rc_rounds.specs.Rounds.{EndsAs, empty_state}
use Rattle.rc_route.specs.declared.outcome.Outcome.TheVariants.{Fixed}
use Rattle.rc_route.specs.declared.route.Route.{Route}
use Rattle.rc_route.specs.declared.state.RouterState.{RouterState}
use Rattle.rc_shares.proofs.StretchLaws.{stretch_up}
use Rattle.rc_shares.specs.Stretches.{IsStretch}
use Rattle.rc_topology.specs.Ports.{links_of}
use Rattle.rc_topology.specs.Topology.{Topology}
use Rattle.rc_alone.specs.Alone.{AreTablesAlone, last_round}
use Rattle.rc_alone.specs.Preparing.{ArePreparedOver, IsPreparedOf}

-- ---- what is made of each number

-- is what a function gives of it
given_each : {Y : Type 0} (f : ℕ → Y) (P : ℕ → Y → Type 0) → ((r : ℕ) (y : Y) → P r y → y ≡ f r) → (a n : ℕ) (ys : List Y) → IsStretch P a (a + n) ys → ys ≡ map f (range_with_len a n)
unfolding IsStretch
given_each f P is a zero [] s = refl
given_each f P is a zero (y ∷ ys) s = (let up = stretch_up P (a + 1) (a + 0) ys s.1 in absurd (let none : ⊥ = omega (arith, up) in none))
given_each f P is a (suc n) [] s = absurd (let none : ⊥ = omega (arith, s) in none)
given_each f P is a (suc n) (y ∷ ys) s =
    ap (λ z. z ∷ ys) (is a y s.0) ∙ ap (λ zs. f a ∷ zs) (given_each f P is (a + 1) n ys (subst (λ k. IsStretch P (a + 1) k ys) (let e : a + suc n ≡ a + 1 + n = omega arith in e) s.1))

-- has what each has
all_have : {Y : Type 0} (K : Y → Type 0) (P : ℕ → Y → Type 0) → ((r : ℕ) (y : Y) → P r y → K y) → (a b : ℕ) (ys : List Y) → IsStretch P a b ys → All K ys
unfolding IsStretch
all_have K P has a b [] s = λ k d less. absurd (let none : ⊥ = omega (arith, less) in none)
all_have K P has a b (y ∷ ys) s = All-cons K y ys (has a y s.0) (all_have K P has (a + 1) b ys s.1)

-- ---- how many routes routers know

abbrev nothing : RouterState
nothing = record { table = []; paths = [] }

abbrev knowing : List Route → RouterState
knowing table = record { table = table; paths = [] }

abbrev many : ℕ → List RouterState → ℕ
many k state = fold (λ n (s : RouterState). n + length s.table) k state

at_least : (k : ℕ) (state : List RouterState) → k ≤ many k state
at_least k [] = omega arith
at_least k (s ∷ state) = let more = at_least (k + length s.table) state in omega (arith, more)

no_routes : (t : List Route) → length t ≡ 0 → t ≡ []
no_routes [] is = refl
no_routes (x ∷ t) is = absurd (let none : ⊥ = omega (arith, is) in none)

-- where there is none nobody knows anything
none_known : (T : ℕ → List Route) (rs : List ℕ) (k : ℕ) → many k (map (λ r. knowing (T r)) rs) ≡ 0 → map (λ r. knowing (T r)) rs ≡ map (λ _. nothing) rs
none_known T [] k is = refl
none_known T (r ∷ rs) k is =
    let more = at_least (k + length (T r)) (map (λ q. knowing (T q)) rs) in
    ap (λ t. knowing t ∷ map (λ q. knowing (T q)) rs) (no_routes (T r) (omega (arith, more, is))) ∙ ap (λ ss. nothing ∷ ss) (none_known T rs (k + length (T r)) is)

none_counted : (rs : List ℕ) → many 0 (map (λ _. nothing) rs) ≡ 0
none_counted [] = refl
none_counted (r ∷ rs) = none_counted rs

zero_of : (n : ℕ) → (n == 0) ≡ true → n ≡ 0
zero_of n is = by (cases_eq n 0)
  where
    by : (n ≡ 0) ⊎ (n ≢ 0) → n ≡ 0
    by (inl e) = e
    by (inr other) = absurd (let f = ne_eqb n 0 other in let g : true ≡ false = sym is ∙ f in cc)

-- ---- the fixed point

-- who reads nothing where no routes are told reads nothing beside them
with_routes : (net : Network) (i bare : Internal) → bare ≡ without_routes i → AllReadNothing net bare → AllReadNothing net i
with_routes net i bare is none r less = by (subst (λ (x : Internal). ReadsNothing net x r) is (none r less))
  where
    by : ReadsNothing net (without_routes i) r → ReadsNothing net i r
    by n = record { others = record { no_process = n.others.no_process; no_sessions = n.others.no_sessions; no_boundaries = n.others.no_boundaries }; lines = n.lines }

module _ (net : Network) (i : Internal) (none : AllReadNothing net i) (fibs : List (List Entry)) (made : ArePreparedOver net i fibs) where
  abbrev table_at : ℕ → List Route
  table_at r = lone_table net r (routes_of i r)

  abbrev first : List RouterState
  first = next_state net i (empty_state net)

  first_is : first ≡ map (λ r. knowing (table_at r)) (router_ids net)
  first_is = state_alone net i none (empty_state net)

  each_resolved : (rs : List ℕ) → tables_of (map (λ r. knowing (table_at r)) rs) ≡ map (λ r. resolved (table_at r)) rs
  each_resolved [] = refl
  each_resolved (r ∷ rs) = ap (λ ts. resolved (table_at r) ∷ ts) (each_resolved rs)

  -- the tables are those of the state after the first round
  prepared : fibs ≡ tables_of first
  prepared =
      given_each (λ r. resolved (table_at r)) (λ r. IsPreparedOf net r (routes_of i r)) (λ r fib is. is.value) 0 (length net.routers) fibs
      (subst (λ n. IsStretch (λ r. IsPreparedOf net r (routes_of i r)) 0 n fibs) (let e : length net.routers ≡ 0 + length net.routers = omega arith in e) made)
      ∙ sym (each_resolved (router_ids net)) ∙ ap tables_of (sym first_is)

  in_order : All IsFib fibs
  in_order = all_have IsFib (λ r. IsPreparedOf net r (routes_of i r)) (λ r fib is. is.in_order) 0 (length net.routers) fibs made

  counted : route_count fibs ≡ many 0 first
  counted = ap route_count prepared ∙ routes_counted first

  ends : (limit : ℕ) → 2 ≤ limit → EndsAs net i limit (Fixed (last_round fibs) first)
  ends limit within = by (route_count fibs == 0) refl
    where
      nobody : (route_count fibs == 0) ≡ true → first ≡ empty_state net
      nobody is = first_is ∙ none_known table_at (router_ids net) 0 (ap (many 0) (sym first_is) ∙ sym counted ∙ zero_of (route_count fibs) is)

      somebody : (route_count fibs == 0) ≡ false → first ≢ empty_state net
      somebody is empty =
          let e : route_count fibs ≡ 0 = counted ∙ ap (many 0) empty ∙ none_counted (router_ids net) in
          let f : (route_count fibs == 0) ≡ true = ap (λ n. n == 0) e in
          let g : true ≡ false = sym f ∙ is in cc

      by : (b : Bool) → (route_count fibs == 0) ≡ b → EndsAs net i limit (Fixed (if b then 1 else 2) first)
      by true is = ends_first net i (nobody is) limit (omega (arith, within))
      by false is = ends_fixed net i none (somebody is) limit within

  alone : (limit : ℕ) → 2 ≤ limit → (links : Topology) (round : ℕ) → IsInternal net i → links ≡ i.links → links ≡ links_of net → round ≡ last_round fibs → AreTablesAlone net limit links fibs round
  alone limit within links round is over own last = record {
    state = first;
    own = own;
    outcome = record { internal = i; links = sym over ∙ own; is_internal = is; ends = subst (λ n. EndsAs net i limit (Fixed n first)) (sym last) (ends limit within) };
    prepared = prepared;
  }

-- so it is with what was made over the grounds of a network
module _ (net : Network) (g : Grounds) (grounds : AreGrounds net g) (none : AllReadNothing net g.internal) (fibs : List (List Entry))
    (made : (i : Internal) → IsInternal net i → i.links ≡ g.internal.links → ArePreparedOver net i fibs) where
  over : g.internal.links ≡ grounds.whole.links
  over = ap (λ (x : Internal). x.links) grounds.bare

  reads_nothing : AllReadNothing net grounds.whole
  reads_nothing = with_routes net grounds.whole g.internal grounds.bare none

  of_whole : ArePreparedOver net grounds.whole fibs
  of_whole = made grounds.whole grounds.is_internal (sym over)

  pub fibs_prepared : ArePrepared fibs
  fibs_prepared =
      are_prepared (next_state net grounds.whole (empty_state net)) fibs (prepared net grounds.whole reads_nothing fibs of_whole) (in_order net grounds.whole reads_nothing fibs of_whole)

  pub found : (limit : ℕ) → 2 ≤ limit → (links : Topology) (tables : List (List Entry)) (round : ℕ) → links ≡ g.internal.links → links ≡ links_of net → tables ≡ fibs → round ≡ last_round tables → AreTablesAlone net limit links tables round
  found limit within links tables round same own are last =
      subst (λ ts. AreTablesAlone net limit links ts round) (sym are)
      (alone net grounds.whole reads_nothing fibs of_whole limit within links round grounds.is_internal (same ∙ over) own (last ∙ ap last_round are))
