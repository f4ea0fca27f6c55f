-- A router that reads nothing knows the same after a round of any state.
use Rattle.std.proofs.Common.{refl, ◌≡◌, ◌∙◌, ap, sym, ℕ, ◌<◌, List, [], Option, Some, None, IfSome, length, arith}
use Rattle.std.specs.List.{slice_get}
use Rattle.std.specs.Option.{option_map_or}
use Rattle.std.proofs.Math.Decide.{dec_lt}
use Rattle.std.proofs.lemmas.List.FromFn.{length-map-range_with_len}
use Rattle.std.proofs.lemmas.Option.{slice_get_past}
use Rattle.rc_bgp.specs.RouterStates.{table_of}
use Rattle.rc_bgp.specs.Sessions.{configured_sessions}
use Rattle.rc_bgp_session.specs.declared.session.Session.{Session}
use Rattle.rc_config.specs.Members.{router_at}
use Rattle.rc_config.specs.declared.network.Network.{Network}
use Rattle.rc_config.specs.declared.router_text.RouterText.{RouterText}
use Rattle.rc_ospf.specs.declared.model.Internal.{Internal}
use Rattle.rc_route.specs.declared.state.RouterState.{RouterState}
use Rattle.rc_rib.specs.Again.{AllReadNothing, ReadsNothing}
use Rattle.rc_rib.specs.Next.{next_router, next_state, router_after}
use Rattle.rc_rib.proofs.AgainLaws.{alone, from_file, row, same_elements}

module _ (net : Network) (internal : Internal) where
  -- one router that reads nothing
  pub next_of_any : (r : ℕ) → r < length net.routers → ReadsNothing net internal r → (old now : List RouterState) → next_router net internal old r ≡ next_router net internal now r
  next_of_any r here none old now = by (router_at net r) none.lines
    where
      all : List (List Session)
      all = configured_sessions net internal.links

      by : (o : Option RouterText) → IfSome o (λ (file : RouterText). file.static_routes ≡ [])
          → option_map_or (router_after net internal old r) o (record { table = []; paths = [] }) ≡ option_map_or (router_after net internal now r) o (record { table = []; paths = [] })
      by None lines = refl
      by (Some file) lines =
          alone net internal all r here file refl none.others old ∙ from_file net internal all r here file (table_of old r) (table_of now r) lines
          ∙ sym (alone net internal all r here file refl none.others now)

  -- and where all routers do, the state after a round is the same, whatever it was before
  pub state_of_any : AllReadNothing net internal → (old now : List RouterState) → next_state net internal old ≡ next_state net internal now
  state_of_any none old now = same_elements (next_state net internal old) (next_state net internal now) (λ k. at k (dec_lt k (length net.routers)))
    where
      all : List (List Session)
      all = configured_sessions net internal.links

      as_many : (state : List RouterState) → length (next_state net internal state) ≡ length net.routers
      as_many state = length-map-range_with_len (next_router net internal state) 0 (length net.routers)

      at : (k : ℕ) → Dec (k < length net.routers) → slice_get (next_state net internal old) k ≡ slice_get (next_state net internal now) k
      at k (yes here) = row net internal all k here old ∙ ap Some (next_of_any k here (none k here) old now) ∙ sym (row net internal all k here now)
      at k (no past) =
          slice_get_past (next_state net internal old) k (let e = as_many old in omega (arith, past, e))
          ∙ sym (slice_get_past (next_state net internal now) k (let e = as_many now in omega (arith, past, e)))
