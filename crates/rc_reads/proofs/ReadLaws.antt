-- Two states that tell the same of each router that one reads give it the same after a round.
use Rattle.std.proofs.Common.{refl, ◌≡◌, ◌⊎◌, inl, inr, ap, sym, ◌∙◌, subst, ℕ, ◌+◌, ◌<◌, ◌==◌, Bool, true, false, ◌&&◌, ◌||◌, List, [], ◌∷◌, ◌++◌, length, Option, Some, None, eq-eqb, arith}
use Rattle.std.specs.Prelude.{slice_get}
use Rattle.std.specs.List.{AllByRecursion}
use Rattle.std.specs.Option.{option_map_or}
use Rattle.rc_base.proofs.KeepLaws.{In}
use Rattle.rc_bgp.specs.Candidates.{best_paths}
use Rattle.rc_bgp.specs.RouterStates.{table_of}
use Rattle.rc_bgp.specs.Sessions.{configured_sessions, sessions_of}
use Rattle.rc_bgp_session.specs.declared.session.Session.{Session}
use Rattle.rc_config.specs.Members.{router_at, router_ids}
use Rattle.rc_config.specs.declared.network.Network.{Network}
use Rattle.rc_config.specs.declared.router_text.RouterText.{RouterText}
use Rattle.rc_external.specs.Externals.{externals}
use Rattle.rc_external.specs.Routes.{external_routes}
use Rattle.rc_fib.specs.Forwarding.{resolved}
use Rattle.rc_ospf.specs.Boundaries.{is_boundary}
use Rattle.rc_ospf.specs.Internal.{IsInternal, boundaries_of, routes_of}
use Rattle.rc_ospf.specs.declared.model.Internal.{Internal}
use Rattle.rc_rib.specs.Best.{best_routes}
use Rattle.rc_rib.specs.Connected.{connected}
use Rattle.rc_rib.specs.Next.{learned_routes, next_router, router_after, to_others}
use Rattle.rc_rib.specs.Static.{active_lines, static_routes}
use Rattle.rc_route.specs.declared.best.Best.{Best}
use Rattle.rc_route.specs.declared.route.Route.{Route}
use Rattle.rc_route.specs.declared.state.RouterState.{RouterState}
use Rattle.rc_reads.specs.Reads.{AreEqualAt, is_read, names, reads, runs_ospf}
use Rattle.rc_reads.proofs.BoundaryLaws.{no_boundaries}
use Rattle.rc_reads.specs.Stayed.{HaveStayed, ReadsTheSame}
use Rattle.rc_reads.specs.declared.stayed.Stayed.{Stayed}
use Rattle.rc_reads.proofs.ListLaws.{in_range, passing_has, within_range}
use Rattle.rc_reads.proofs.OutsideLaws.{none_outside, same_sent}
use Rattle.rc_reads.proofs.PathLaws.{IsKnownAlike, same_paths}
use Rattle.rc_reads.proofs.SessionLaws.{IsRead, all_read}

last : (a b c d e : Bool) → d ≡ true → e ≡ true → (a || (b || (c || (d && e)))) ≡ true
last true b c d e p q = refl
last false true c d e p q = refl
last false false true d e p q = refl
last false false false d e p q = λ i. p i && q i

-- with this file, from its previous table, its best paths and what comes from outside of the AS
after : (internal : Internal) (r : ℕ) → RouterText → List Route → List Best → List Route → RouterState
after internal r file table paths outside = record {
  table = best_routes (connected r file.interfaces ++ (static_routes (active_lines r file.interfaces (resolved table) file.static_routes) ++ (learned_routes paths ++ (routes_of internal r ++ to_others internal r outside))));
  paths = paths;
}

-- it follows from what is read itself: what the router knows, what the senders of sessions to it know, and what comes from outside of the AS
module _ (net : Network) (internal : Internal) (r : ℕ) (old now : List RouterState) (itself : slice_get old r ≡ slice_get now r) where
  tables : table_of old r ≡ table_of now r
  tables = ap (λ o. option_map_or (λ (s : RouterState). s.table) o []) itself

  pub from_parts : AllByRecursion (IsKnownAlike r old now) (sessions_of (configured_sessions net internal.links) r) → external_routes internal (externals net old) r ≡ external_routes internal (externals net now) r
      → next_router net internal old r ≡ next_router net internal now r
  unfolding after
  from_parts alike outside = by (router_at net r)
    where
      paths : best_paths net (configured_sessions net internal.links) old r ≡ best_paths net (configured_sessions net internal.links) now r
      paths = same_paths net r old now (configured_sessions net internal.links) tables alike

      by : (o : Option RouterText) → option_map_or (router_after net internal old r) o (record { table = []; paths = [] }) ≡ option_map_or (router_after net internal now r) o (record { table = []; paths = [] })
      by None = refl
      by (Some file) = λ i. after internal r file (tables i) (paths i) (outside i)

known_alike : (r : ℕ) (old now : List RouterState) (s : Session) → s.receiver ≡ r → slice_get old s.sender ≡ slice_get now s.sender → IsKnownAlike r old now s
known_alike r old now s receiver same = record {
  receiver = receiver;
  table = ap (λ o. option_map_or (λ (k : RouterState). k.table) o []) same;
  paths = ap (λ o. option_map_or (λ (k : RouterState). k.paths) o []) same;
}

module _ (net : Network) (internal : Internal) (is : IsInternal net internal) (r : ℕ) (here : r < length net.routers) (old now : List RouterState) (same : AreEqualAt (reads net r) old now) where
  at : (s : ℕ) → In s (router_ids net) → is_read net r s ≡ true → slice_get old s ≡ slice_get now s
  at s there read = passing_has (λ q. slice_get old q ≡ slice_get now q) (is_read net r) (router_ids net) s same there read

  itself : slice_get old r ≡ slice_get now r
  itself = at r (in_range (length net.routers) 0 r (omega arith) (omega arith)) (ap (λ b. b || (names net r r || (names net r r || (runs_ospf net r && is_boundary net r)))) (eq-eqb r r refl))

  alike : (ss : List Session) → AllByRecursion (IsRead net r) ss → AllByRecursion (IsKnownAlike r old now) ss
  alike [] all = tt
  alike (s ∷ ss) all = (known_alike r old now s all.0.receiver (at s.sender all.0.sender all.0.is_read), alike ss all.1)

  outside : external_routes internal (externals net old) r ≡ external_routes internal (externals net now) r
  outside = by (runs_ospf net r) refl
    where
      by : (b : Bool) → runs_ospf net r ≡ b → external_routes internal (externals net old) r ≡ external_routes internal (externals net now) r
      by true e = ap (λ rows. external_routes internal rows r) (same_sent net old now (λ q there sends. at q there (last (q == r) (names net r q) (names net q r) (runs_ospf net r) (is_boundary net q) e sends)))
      by false e = let none = no_boundaries net r e internal is in none_outside internal (externals net old) r none ∙ sym (none_outside internal (externals net now) r none)

  pub same_next : next_router net internal old r ≡ next_router net internal now r
  same_next = from_parts net internal r old now itself (alike (sessions_of (configured_sessions net internal.links) r) (all_read net internal.links r here)) outside

-- ---- by flags

module _ (net : Network) (stayed : Stayed) (old now : List RouterState) (have : HaveStayed net stayed old now) where
  all_alike : (r : ℕ) (ss : List Session) → AllByRecursion (IsRead net r) ss → AllByRecursion (λ (s : Session). slice_get stayed.routers s.sender ≡ Some true) ss → AllByRecursion (IsKnownAlike r old now) ss
  all_alike r [] read set = tt
  all_alike r (s ∷ ss) read set = (known_alike r old now s read.0.receiver (have.routers s.sender set.0), all_alike r ss read.1 set.1)

  same_externals : stayed.boundaries ≡ true → externals net old ≡ externals net now
  same_externals set = same_sent net old now (λ q there sends. have.routers q (have.boundaries set q (let less : q < 0 + length net.routers = within_range (length net.routers) 0 q there in omega (arith, less)) sends))

  pub reads_same : (internal : Internal) (all : List (List Session)) (r : ℕ) → all ≡ configured_sessions net internal.links → r < length net.routers → ReadsTheSame internal all stayed r → next_router net internal old r ≡ next_router net internal now r
  reads_same internal all r these here reads =
      let senders = subst (λ ss. AllByRecursion (λ (s : Session). slice_get stayed.routers s.sender ≡ Some true) (sessions_of ss r)) these reads.senders in
      from_parts net internal r old now (have.routers r reads.itself) (all_alike r (sessions_of (configured_sessions net internal.links) r) (all_read net internal.links r here) senders) (outside_by reads.boundaries)
    where
      outside_by : (stayed.boundaries ≡ true) ⊎ (boundaries_of internal r ≡ []) → external_routes internal (externals net old) r ≡ external_routes internal (externals net now) r
      outside_by (inl set) = ap (λ rows. external_routes internal rows r) (same_externals set)
      outside_by (inr none) = none_outside internal (externals net old) r none ∙ sym (none_outside internal (externals net now) r none)
