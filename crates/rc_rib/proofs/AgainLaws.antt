-- A router that reads what it read a round earlier knows the same again.
use Rattle.std.proofs.Common.{refl, ◌≡◌, ◌⊎◌, inl, inr, ap, sym, ◌∙◌, subst, ℕ, zero, suc, ◌+◌, ◌<◌, false, List, [], ◌∷◌, ◌++◌, All, Option, Some, None, IfSome, length, arith, append-nil}
use Rattle.std.specs.List.{cons_option, filter, filter_map, list_any, range_with_len, slice_get}
use Rattle.std.specs.Option.{option_map, option_map_or}
use Rattle.std.proofs.lemmas.Option.{same_Some, slice_get-map, slice_get-get_or, slice_get_past, slice_get_within, get_or_from_slice_get}
use Rattle.std.proofs.lemmas.List.FromFn.{length-range_with_len, get_or-range_with_len, length-map-range_with_len}
use Rattle.std.proofs.Math.Decide.{dec_lt}
use Rattle.rc_base.specs.Prefix.{Cidr}
use Rattle.rc_bgp.specs.Candidates.{all_best, best_paths}
use Rattle.rc_bgp.specs.Changes.{CoversChange}
use Rattle.rc_bgp.specs.Maximum.{maximum_of}
use Rattle.rc_bgp.specs.RouterStates.{paths_of, table_of}
use Rattle.rc_bgp.specs.AllOriginated.{own_paths, paths_of_process}
use Rattle.rc_bgp.specs.Sessions.{configured_sessions, is_up, sessions_of}
use Rattle.rc_bgp_session.specs.declared.session.Session.{Session}
use Rattle.rc_config.specs.Members.{router_at, router_ids}
use Rattle.rc_config.specs.declared.network.Network.{Network}
use Rattle.rc_config.specs.declared.router_text.RouterText.{RouterText}
use Rattle.rc_config.specs.declared.static_route.StaticRoute.{StaticRoute}
use Rattle.rc_external.specs.AsExternal.{AsExternal}
use Rattle.rc_external.specs.Costs.{cost_cmp}
use Rattle.rc_external.specs.Externals.{externals}
use Rattle.rc_external.specs.Routes.{external_routes, external_route_over, external_route_to, routes_over}
use Rattle.rc_external.specs.Ways.{external_way_to}
use Rattle.rc_external.specs.declared.as_external.ExternalRow.{ExternalRow}
use Rattle.rc_fib.specs.Forwarding.{resolved}
use Rattle.rc_ospf.specs.declared.model.Internal.{Internal}
use Rattle.rc_route.specs.Tables.{IsRouterState, best_for}
use Rattle.rc_route.specs.Ways.{best_of}
use Rattle.rc_route.specs.declared.best.Best.{Best}
use Rattle.rc_ospf.specs.Internal.{boundaries_of, routes_of}
use Rattle.rc_route.specs.declared.route.Route.{Route}
use Rattle.rc_route.specs.declared.state.RouterState.{RouterState}
use Rattle.rc_rib.specs.Again.{AreUnchanged, IsUnchanged, ReadsNoOthers}
use Rattle.rc_rib.specs.Best.{best_routes}
use Rattle.rc_rib.specs.Connected.{connected}
use Rattle.rc_rib.specs.Next.{learned_routes, next_router, next_state, ospf_routes, router_after, table_after, to_others}
use Rattle.rc_rib.specs.Static.{active_lines, asks_table, static_routes}
use Rattle.rc_rib.proofs.StaticLaws.{none_asks}

pub numbered : (n r : ℕ) → r < n → slice_get (range_with_len 0 n) r ≡ Some r
numbered n r less =
    slice_get-get_or (range_with_len 0 n) r 0 (omega (arith, less, length-range_with_len 0 n)) ∙ ap Some (get_or-range_with_len 0 n r 0 less ∙ (let e : 0 + r ≡ r = omega arith in e))

-- ---- without a path to a router that sends it nothing comes from outside of the AS

no_ways : (sent : List AsExternal) → filter_map (external_way_to []) sent ≡ []
no_ways [] = refl
no_ways (e ∷ es) = no_ways es

no_route : (row : ExternalRow) → external_route_to [] row ≡ None
no_route row = ap (λ ways. option_map (external_route_over row.prefix) (best_of cost_cmp ways)) (no_ways row.externals)

pub nothing_outside : (rows : List ExternalRow) → routes_over [] rows ≡ []
nothing_outside [] = refl
nothing_outside (row ∷ rows) = ap (λ o. cons_option o (routes_over [] rows)) (no_route row) ∙ nothing_outside rows

-- ---- without a process, and without a session, there is no path

none_originated : (net : Network) (r : ℕ) (table : List Route) → IfSome (router_at net r) (λ (file : RouterText). file.bgp ≡ None) → own_paths net table r ≡ []
none_originated net r table none = by (router_at net r) none
  where
    by : (o : Option RouterText) → IfSome o (λ (file : RouterText). file.bgp ≡ None) → option_map_or (λ (file : RouterText). option_map_or (paths_of_process net r file table) file.bgp []) o [] ≡ []
    by None none = refl
    by (Some file) none = ap (λ b. option_map_or (paths_of_process net r file table) b []) none

no_paths : (net : Network) (all : List (List Session)) (old : List RouterState) (r : ℕ) → IfSome (router_at net r) (λ (file : RouterText). file.bgp ≡ None) → sessions_of all r ≡ [] → best_paths net all old r ≡ []
unfolding best_paths
no_paths net all old r none silent =
    ap (λ own. all_best net old (maximum_of net r) (table_of old r) own (filter (is_up old) (sessions_of all r))) (none_originated net r (table_of old r) none)
    ∙ ap (λ ss. all_best net old (maximum_of net r) (table_of old r) [] (filter (is_up old) ss)) silent

module _ (net : Network) (internal : Internal) (all : List (List Session)) (r : ℕ) (here : r < length net.routers) where
  -- what the router knows after a round
  pub row : (old : List RouterState) → slice_get (next_state net internal old) r ≡ Some (next_router net internal old r)
  row old =
      slice_get-map (next_router net internal old) (router_ids net) r ∙ ap (option_map (next_router net internal old)) (numbered (length net.routers) r here)

  within : {X : Type 0} (xs : List X) (k : ℕ) → k < length xs → slice_get xs k ≡ None → ⊥
  within [] k less none = absurd (omega arith)
  within (x ∷ xs) zero less none = absurd (cc)
  within (x ∷ xs) (suc k) less none = within xs k (omega arith) none

  -- it has a file
  pub has_file : router_at net r ≡ None → ⊥
  has_file none = by (slice_get net.routers r) refl none
    where
      by : (o : Option (List ℕ × RouterText)) → slice_get net.routers r ≡ o → option_map (λ e. e.1) o ≡ None → ⊥
      by None e none = within net.routers r here e
      by (Some f) e none = absurd (cc)

  -- its best paths in a state that came from an earlier one
  pub known_paths : all ≡ configured_sessions net internal.links → (state before : List RouterState) → state ≡ next_state net internal before → paths_of state r ≡ best_paths net all before r
  known_paths these state before is = ap (λ all. paths_of all r) is ∙ ap (λ o. option_map_or (λ (s : RouterState). s.paths) o []) (row before) ∙ by (router_at net r) refl
    where
      by : (o : Option RouterText) → router_at net r ≡ o → (option_map_or (router_after net internal before r) o (record { table = []; paths = [] })).paths ≡ best_paths net all before r
      by None e = absurd (has_file e)
      by (Some file) e = ap (λ ss. best_paths net ss before r) (sym these)

  -- and its table there
  pub known_table : (state before : List RouterState) → state ≡ next_state net internal before → (file : RouterText) → router_at net r ≡ Some file
      → table_of state r ≡ table_after r file (learned_routes (best_paths net (configured_sessions net internal.links) before r)) (ospf_routes internal (externals net before) r) (table_of before r)
  known_table state before is file found =
      ap (λ all. table_of all r) is ∙ ap (λ o. option_map_or (λ (s : RouterState). s.table) o []) (row before)
      ∙ ap (λ o. (option_map_or (router_after net internal before r) o (record { table = []; paths = [] })).table) found

  -- with this file, from its previous table, its best paths and what comes from outside of the AS
  pub after : RouterText → List Route → List Best → List Route → RouterState
  after file table paths outside = record {
    table = best_routes (connected r file.interfaces ++ (static_routes (active_lines r file.interfaces (resolved table) file.static_routes) ++ (learned_routes paths ++ (routes_of internal r ++ to_others internal r outside))));
    paths = paths;
  }

  with_lines : RouterText → List Route → List StaticRoute → RouterState
  with_lines file table lines = record {
    table = best_routes (connected r file.interfaces ++ (static_routes (active_lines r file.interfaces (resolved table) lines) ++ (learned_routes [] ++ (routes_of internal r ++ to_others internal r []))));
    paths = [];
  }

  -- where it reads no other router
  pub alone : (file : RouterText) → all ≡ configured_sessions net internal.links → ReadsNoOthers net internal all r → (old : List RouterState) → router_after net internal old r file ≡ after file (table_of old r) [] []
  unfolding after
  alone file these others old =
      ap (λ paths. after file (table_of old r) paths (external_routes internal (externals net old) r))
      (ap (λ ss. best_paths net ss old r) (sym these) ∙ no_paths net all old r others.no_process others.no_sessions)
      ∙ ap (after file (table_of old r) []) (ap (λ bs. routes_over bs (externals net old)) others.no_boundaries ∙ nothing_outside (externals net old))

  -- without a line `ip route` it comes from the file alone
  pub from_file : (file : RouterText) (t u : List Route) → file.static_routes ≡ [] → after file t [] [] ≡ after file u [] []
  unfolding after with_lines
  from_file file t u none = ap (with_lines file t) none ∙ sym (ap (with_lines file u) none)

  -- and of that only its interfaces count, beside its OSPF routes
  pub of_file : (file : RouterText) (t : List Route) → file.static_routes ≡ [] → after file t [] [] ≡ record { table = best_routes (connected r file.interfaces ++ routes_of internal r); paths = [] }
  unfolding after with_lines static_routes
  of_file file t none =
      ap (with_lines file t) none ∙ ap (λ inside. record { table = best_routes (connected r file.interfaces ++ inside); paths = [] }) (append-nil (routes_of internal r))

  -- from the same table, or where no line asks one, it comes to the same
  same_active : (file : RouterText) (t u : List Route) → (list_any (λ (s : StaticRoute). asks_table s.target) file.static_routes ≡ false) ⊎ (u ≡ t) → (paths : List Best) (outside : List Route) → after file t paths outside ≡ after file u paths outside
  unfolding after
  same_active file t u (inl none) paths outside =
      ap (λ lines. record {
        table = best_routes (connected r file.interfaces ++ (static_routes lines ++ (learned_routes paths ++ (routes_of internal r ++ to_others internal r outside))));
        paths = paths;
      }) (none_asks r file.interfaces (resolved t) (resolved u) file.static_routes none)
  same_active file t u (inr same) paths outside = ap (λ table. after file table paths outside) (sym same)

  -- where nothing comes from outside of the AS
  inside_only : (file : RouterText) → all ≡ configured_sessions net internal.links → boundaries_of internal r ≡ [] → (old : List RouterState) → router_after net internal old r file ≡ after file (table_of old r) (best_paths net all old r) []
  unfolding after
  inside_only file these none old =
      ap (λ paths. after file (table_of old r) paths (external_routes internal (externals net old) r)) (ap (λ ss. best_paths net ss old r) (sym these))
      ∙ ap (after file (table_of old r) (best_paths net all old r)) (ap (λ bs. routes_over bs (externals net old)) none ∙ nothing_outside (externals net old))

  pub same_next : all ≡ configured_sessions net internal.links → (state before : List RouterState) → IsUnchanged net internal all state before r → next_router net internal before r ≡ next_router net internal state r
  same_next these state before same = by (router_at net r) same.reads
    where
      by : (o : Option RouterText) → (IfSome o (λ (file : RouterText). list_any (λ (s : StaticRoute). asks_table s.target) file.static_routes ≡ false) ⊎ (table_of state r ≡ table_of before r))
          → option_map_or (router_after net internal before r) o (record { table = []; paths = [] }) ≡ option_map_or (router_after net internal state r) o (record { table = []; paths = [] })
      by None reads = refl
      by (Some file) reads =
          inside_only file these same.no_boundaries before
          ∙ same_active file (table_of before r) (table_of state r) reads (best_paths net all before r) []
          ∙ ap (λ paths. after file (table_of state r) paths []) same.paths
          ∙ sym (inside_only file these same.no_boundaries state)

  pub again : all ≡ configured_sessions net internal.links → (state before : List RouterState) (s : RouterState) → state ≡ next_state net internal before → slice_get state r ≡ Some s → IsUnchanged net internal all state before r → s ≡ next_router net internal state r
  again these state before s is known same =
      same_Some s (next_router net internal before r) (sym known ∙ ap (λ all. slice_get all r) is ∙ row before) ∙ same_next these state before same

-- what stands for a router in two states tells its tables there
pub tables_of : (state before : List RouterState) (r : ℕ) (s t : RouterState) → slice_get state r ≡ Some s → slice_get before r ≡ Some t → s.table ≡ t.table → table_of state r ≡ table_of before r
tables_of state before r s t here there same =
    ap (λ o. option_map_or (λ (k : RouterState). k.table) o []) here ∙ same ∙ sym (ap (λ o. option_map_or (λ (k : RouterState). k.table) o []) there)

-- what stands in a state in order is in order
pub known_in_order : (state : List RouterState) (r : ℕ) (s : RouterState) → All IsRouterState state → slice_get state r ≡ Some s → IsRouterState s
known_in_order state r s all is =
    subst IsRouterState (get_or_from_slice_get state r s s is) (all r s (slice_get_within state r s is))

-- the same paths say the same
pub nothing_changed : (state : List RouterState) (r : ℕ) (s : RouterState) (paths : List Best) (changed : List Cidr) → slice_get state r ≡ Some s → paths ≡ s.paths → CoversChange changed (paths_of state r) paths
nothing_changed state r s paths changed known same = record { elsewhere = λ p none. ap (λ l. best_for l p) (ap (λ o. option_map_or (λ (t : RouterState). t.paths) o []) known ∙ sym same) }

-- ---- where no router changes, the state stays

pub same_elements : {X : Type 0} (xs ys : List X) → ((k : ℕ) → slice_get xs k ≡ slice_get ys k) → xs ≡ ys
same_elements [] [] same = refl
same_elements [] (y ∷ ys) same = absurd (cc (same 0))
same_elements (x ∷ xs) [] same = absurd (cc (same 0))
same_elements (x ∷ xs) (y ∷ ys) same =
    let tails = same_elements xs ys (λ k. same (suc k)) in
    ap (λ z. z ∷ xs) (same_Some x y (same 0)) ∙ ap (λ zs. y ∷ zs) tails

module _ (net : Network) (internal : Internal) (all : List (List Session)) (state before : List RouterState) where
  pub settled : all ≡ configured_sessions net internal.links → state ≡ next_state net internal before → length state ≡ length net.routers → AreUnchanged net internal all state before → next_state net internal state ≡ state
  settled these is as_long same = same_elements (next_state net internal state) state (λ k. at k (dec_lt k (length net.routers)))
    where
      as_many : length (next_state net internal state) ≡ length net.routers
      as_many = length-map-range_with_len (next_router net internal state) 0 (length net.routers)

      at : (k : ℕ) → Dec (k < length net.routers) → slice_get (next_state net internal state) k ≡ slice_get state k
      at k (yes here) =
          row net internal all k here state ∙ ap Some (sym (same_next net internal all k here these state before (same k here))) ∙ sym (ap (λ all. slice_get all k) is ∙ row net internal all k here before)
      at k (no past) = slice_get_past (next_state net internal state) k (omega (arith, past, as_many)) ∙ sym (slice_get_past state k (omega (arith, past, as_long)))
