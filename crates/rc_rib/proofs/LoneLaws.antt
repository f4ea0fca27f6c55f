-- A router that reads nothing has the table of its connected routes and of OSPF, and no path.
use Rattle.std.proofs.Common.{refl, ◌≡◌, ◌∙◌, ap, sym, ℕ, ◌<◌, List, [], ◌++◌, map, Option, Some, None, IfSome, length, arith}
use Rattle.std.specs.List.{slice_get}
use Rattle.std.specs.Option.{option_map, option_map_or}
use Rattle.std.proofs.Math.Decide.{dec_lt}
use Rattle.std.proofs.lemmas.List.FromFn.{length-map-range_with_len}
use Rattle.std.proofs.lemmas.Option.{slice_get-map, slice_get_past}
use Rattle.rc_bgp.specs.RouterStates.{table_of}
use Rattle.rc_bgp.specs.Sessions.{configured_sessions}
use Rattle.rc_bgp_session.specs.declared.session.Session.{Session}
use Rattle.rc_config.specs.Members.{router_at, router_ids}
use Rattle.rc_config.specs.declared.network.Network.{Network}
use Rattle.rc_config.specs.declared.router_text.RouterText.{RouterText}
use Rattle.rc_ospf.specs.Internal.{routes_of}
use Rattle.rc_ospf.specs.declared.model.Internal.{Internal}
use Rattle.rc_route.specs.declared.state.RouterState.{RouterState}
use Rattle.rc_rib.specs.Again.{AllReadNothing, ReadsNothing}
use Rattle.rc_rib.specs.Best.{best_routes}
use Rattle.rc_rib.specs.Connected.{connected}
use Rattle.rc_rib.specs.Lone.{lone_table}
use Rattle.rc_rib.specs.Next.{next_router, next_state, router_after}
use Rattle.rc_rib.proofs.AgainLaws.{alone, numbered, of_file, row, same_elements}

-- one router that reads nothing knows that table and no path after a round of any state
pub next_alone : (net : Network) (i : Internal) (r : ℕ) → r < length net.routers → ReadsNothing net i r → (old : List RouterState) → next_router net i old r ≡ record { table = lone_table net r (routes_of i r); paths = [] }
next_alone net i r here none old = by (router_at net r) none.lines
  where
    all : List (List Session)
    all = configured_sessions net i.links

    by : (o : Option RouterText) → IfSome o (λ (file : RouterText). file.static_routes ≡ [])
        → option_map_or (router_after net i old r) o (record { table = []; paths = [] }) ≡ record { table = option_map_or (λ (file : RouterText). best_routes (connected r file.interfaces ++ routes_of i r)) o []; paths = [] }
    by None lines = refl
    by (Some file) lines = alone net i all r here file refl none.others old ∙ of_file net i all r here file (table_of old r) lines

-- what is known so
abbrev known : Network → Internal → ℕ → RouterState
known net i r = record { table = lone_table net r (routes_of i r); paths = [] }

-- and where all routers do, so it is with each
pub state_alone : (net : Network) (i : Internal) → AllReadNothing net i → (old : List RouterState) → next_state net i old ≡ map (λ r. record { table = lone_table net r (routes_of i r); paths = [] }) (router_ids net)
state_alone net i none old = same_elements (next_state net i old) (map (known net i) (router_ids net)) (λ k. at k (dec_lt k (length net.routers)))
  where
    all : List (List Session)
    all = configured_sessions net i.links

    as_many : length (next_state net i old) ≡ length net.routers
    as_many = length-map-range_with_len (next_router net i old) 0 (length net.routers)

    as_many_known : length (map (known net i) (router_ids net)) ≡ length net.routers
    as_many_known = length-map-range_with_len (known net i) 0 (length net.routers)

    its_row : (k : ℕ) → k < length net.routers → slice_get (map (known net i) (router_ids net)) k ≡ Some (known net i k)
    its_row k here = slice_get-map (known net i) (router_ids net) k ∙ ap (option_map (known net i)) (numbered (length net.routers) k here)

    at : (k : ℕ) → Dec (k < length net.routers) → slice_get (next_state net i old) k ≡ slice_get (map (known net i) (router_ids net)) k
    at k (yes here) = row net i all k here old ∙ ap Some (next_alone net i k here (none k here) old) ∙ sym (its_row k here)
    at k (no past) =
        slice_get_past (next_state net i old) k (omega (arith, past, as_many)) ∙ sym (slice_get_past (map (known net i) (router_ids net)) k (omega (arith, past, as_many_known)))
