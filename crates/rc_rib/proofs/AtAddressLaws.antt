-- What a round makes at an address asks OSPF for the routes at it alone.
use Rattle.std.proofs.Common.{refl, ◌≡◌, ap, sym, ◌∙◌, ℕ, zero, suc, List, [], ◌∷◌, ◌++◌, map, Option, Some, None}
use Rattle.std.specs.Prelude.{slice_get, unwrap_or}
use Rattle.std.specs.Option.{option_map_or}
use Rattle.rc_bgp.specs.Candidates.{best_paths}
use Rattle.rc_bgp.specs.RouterStates.{table_of}
use Rattle.rc_bgp.specs.Sessions.{configured_sessions}
use Rattle.rc_config.specs.Members.{router_at, router_ids}
use Rattle.rc_config.specs.declared.network.Network.{Network}
use Rattle.rc_config.specs.declared.router_text.RouterText.{RouterText}
use Rattle.rc_external.specs.Externals.{externals}
use Rattle.rc_external.specs.Routes.{external_routes}
use Rattle.rc_fib.specs.Forwarding.{resolved}
use Rattle.rc_ospf.specs.Internal.{holding, internal_at, routes_of}
use Rattle.rc_shares.specs.Making.{AreMade}
use Rattle.rc_ospf.specs.declared.model.Internal.{Internal}
use Rattle.rc_route.specs.declared.route.Route.{Route}
use Rattle.rc_route.specs.declared.state.RouterState.{RouterState}
use Rattle.rc_rib.specs.Best.{best_routes}
use Rattle.rc_rib.specs.Connected.{connected}
use Rattle.rc_rib.specs.Next.{learned_routes, next_router, next_state, router_after, to_others}
use Rattle.rc_rib.specs.Static.{active_lines, static_routes}
use Rattle.rc_rib.proofs.HeldLaws.{held_among, none_among}

module _ (net : Network) (i : Internal) (a : ℕ) (old : List RouterState) where
  at_number : (ts : List (List Route)) (r : ℕ) → unwrap_or (slice_get (map (holding a) ts) r) [] ≡ holding a (unwrap_or (slice_get ts r) [])
  at_number [] r = refl
  at_number (t ∷ ts) zero = refl
  at_number (t ∷ ts) (suc r) = at_number ts r

  -- the table of a router of this file, with these routes inside and between areas
  with_inside : ℕ → RouterText → List Route → List Route
  with_inside r file inside = best_routes (connected r file.interfaces
      ++ (static_routes (active_lines r file.interfaces (resolved (table_of old r)) file.static_routes)
      ++ (learned_routes (best_paths net (configured_sessions net i.links) old r)
      ++ (inside ++ to_others i r (external_routes i (externals net old) r)))))

  narrowed : (r : ℕ) (file : RouterText) → (router_after net (internal_at a i) old r file).table ≡ with_inside r file (holding a (routes_of i r))
  unfolding with_inside
  narrowed r file = ap (with_inside r file) (at_number i.routes r)

  same_held : (r : ℕ) (file : RouterText) → holding a (router_after net i old r file).table ≡ holding a (router_after net (internal_at a i) old r file).table
  unfolding with_inside
  same_held r file =
      held_among a (connected r file.interfaces) (static_routes (active_lines r file.interfaces (resolved (table_of old r)) file.static_routes))
      (learned_routes (best_paths net (configured_sessions net i.links) old r)) (routes_of i r) (to_others i r (external_routes i (externals net old) r))
      ∙ sym (ap (holding a) (narrowed r file))

  same_none : (r : ℕ) (file : RouterText) → (router_after net i old r file).table ≡ [] → (router_after net (internal_at a i) old r file).table ≡ []
  unfolding with_inside
  same_none r file none =
      narrowed r file
      ∙ none_among a (connected r file.interfaces) (static_routes (active_lines r file.interfaces (resolved (table_of old r)) file.static_routes))
      (learned_routes (best_paths net (configured_sessions net i.links) old r)) (routes_of i r) (to_others i r (external_routes i (externals net old) r)) none

  abbrev nothing : RouterState
  nothing = record { table = []; paths = [] }

  router_held : (r : ℕ) → holding a (next_router net i old r).table ≡ holding a (next_router net (internal_at a i) old r).table
  router_held r = by (router_at net r)
    where
      by : (o : Option RouterText) → holding a (option_map_or (router_after net i old r) o nothing).table ≡ holding a (option_map_or (router_after net (internal_at a i) old r) o nothing).table
      by None = refl
      by (Some file) = same_held r file

  router_none : (r : ℕ) → next_router net i old r ≡ nothing → next_router net (internal_at a i) old r ≡ nothing
  router_none r = by (router_at net r)
    where
      by : (o : Option RouterText) → option_map_or (router_after net i old r) o nothing ≡ nothing → option_map_or (router_after net (internal_at a i) old r) o nothing ≡ nothing
      by None none = none
      by (Some file) none =
          let table = same_none r file (ap (λ (s : RouterState). s.table) none) in
          let paths : best_paths net (configured_sessions net i.links) old r ≡ [] = ap (λ (s : RouterState). s.paths) none in
          λ k. record { table = table k; paths = paths k }

  each_held : (rs : List ℕ) → AreMade (λ (s t : RouterState). holding a s.table ≡ holding a t.table) (map (next_router net i old) rs) (map (next_router net (internal_at a i) old) rs)
  each_held [] = tt
  each_held (r ∷ rs) = (router_held r, each_held rs)

  -- what routers know after a round is alike at the address
  pub state_held : AreMade (λ (s t : RouterState). holding a s.table ≡ holding a t.table) (next_state net i old) (next_state net (internal_at a i) old)
  state_held = each_held (router_ids net)

  each_none : (rs : List ℕ) → map (next_router net i old) rs ≡ map (λ _. nothing) rs → map (next_router net (internal_at a i) old) rs ≡ map (λ _. nothing) rs
  each_none [] none = refl
  each_none (r ∷ rs) none =
      ap (λ s. s ∷ map (next_router net (internal_at a i) old) rs) (router_none r (front none)) ∙ ap (λ ss. nothing ∷ ss) (each_none rs (behind none))
    where
      first : List RouterState → RouterState
      first [] = nothing
      first (s ∷ ss) = s

      rest : List RouterState → List RouterState
      rest [] = []
      rest (s ∷ ss) = ss

      front : map (next_router net i old) (r ∷ rs) ≡ map (λ _. nothing) (r ∷ rs) → next_router net i old r ≡ nothing
      front none = ap first none

      behind : map (next_router net i old) (r ∷ rs) ≡ map (λ _. nothing) (r ∷ rs) → map (next_router net i old) rs ≡ map (λ _. nothing) rs
      behind none = ap rest none

  -- where nobody knows anything after it, nobody does beside the routes at the address alone
  pub state_none : next_state net i old ≡ map (λ _. nothing) (router_ids net) → next_state net (internal_at a i) old ≡ map (λ _. nothing) (router_ids net)
  state_none none = each_none (router_ids net) none
