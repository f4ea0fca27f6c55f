-- A walk of a network has no more positions than the network.
use Rattle.std.proofs.Common.{refl, ◌≡◌, ap, sym, ◌∙◌, ℕ, zero, suc, ◌+◌, ◌≤◌, List, [], ◌∷◌, length, map, Option, Some, None, arith}
use Rattle.std.specs.Prelude.{flat_map, slice_get}
use Rattle.std.specs.List.{range_with_len}
use Rattle.std.specs.Option.{option_map, option_map_or}
use Rattle.std.proofs.lemmas.List.{length-append, length-map}
use Rattle.std.proofs.lemmas.Option.{slice_get-map}
use Rattle.rc_base.specs.declared.header.Header.{Header}
use Rattle.rc_base.specs.declared.position.Pos.{Pos}
use Rattle.rc_base.specs.declared.position.Pos.TheVariants.{Own, Entering}
use Rattle.rc_config.specs.Lawful.{IsPosition}
use Rattle.rc_config.specs.Members.{interface_ids, interfaces_of, positions, router_ids}
use Rattle.rc_config.specs.declared.network.Network.{Network}
use Rattle.rc_config.specs.declared.router_text.RouterText.{RouterText}
use Rattle.rc_route.specs.declared.state.RouterState.{RouterState}
use Rattle.rc_topology.specs.declared.port.Port.{Port}
use Rattle.rc_topology.specs.Ports.{links_of, ports_of, port_of}
use Rattle.rc_topology.specs.Links.{all_ids, ids_of, ports_at}
use Rattle.rc_moves.specs.declared.walk.Walk.{Walk}
use Rattle.rc_moves.specs.Moves.{plane_of}
use Rattle.rc_moves.specs.Walks.{IsWalk}
use Rattle.rc_moves.proofs.BoundLaws.{few_positions}

module _ (net : Network) where
  length-links_of : length (links_of net).ports ≡ length net.routers
  unfolding links_of
  length-links_of = length-map net.routers (λ e. ports_of e.1)

  as_many : (o : Option (List ℕ × RouterText)) → length (option_map_or (λ (ports : List Port). ports) (option_map (λ e. ports_of e.1) o) []) ≡ length (option_map_or (λ (text : RouterText). text.interfaces) (option_map (λ e. e.1) o) [])
  as_many None = refl
  as_many (Some e) = length-map e.1.interfaces (port_of e.1.interfaces)

  length-ports_at : (r : ℕ) → length (ports_at (links_of net) r) ≡ length (interfaces_of net r)
  unfolding links_of
  length-ports_at r =
      ap (λ o. length (option_map_or (λ (ports : List Port). ports) o [])) (slice_get-map (λ (e : List ℕ × RouterText). ports_of e.1) net.routers r) ∙ as_many (slice_get net.routers r)

  -- the network's interfaces are those of its links
  same_ids : (r : ℕ) → ids_of (links_of net) r ≡ interface_ids net r
  same_ids r = ap (λ n. map (λ k. record { router = r; index = k }) (range_with_len 0 n)) (length-ports_at r)

  counted : (rs : List ℕ) → length (flat_map (λ r. Own r ∷ map Entering (interface_ids net r)) rs) ≡ length rs + length (flat_map (ids_of (links_of net)) rs)
  counted [] = refl
  counted (r ∷ rs) =
      let rest = counted rs in
      let here : length (map Entering (interface_ids net r)) ≡ length (ids_of (links_of net) r) = length-map (interface_ids net r) Entering ∙ sym (ap length (same_ids r)) in
      let left = length-append (map Entering (interface_ids net r)) (flat_map (λ s. Own s ∷ map Entering (interface_ids net s)) rs) in
      let right = length-append (ids_of (links_of net) r) (flat_map (ids_of (links_of net)) rs) in
      omega (arith, rest, here, left, right)

  length-range : (n a : ℕ) → length (range_with_len a n) ≡ n
  length-range zero a = refl
  length-range (suc n) a = ap suc (length-range n (a + 1))

  -- positions are routers and interfaces
  pub length-positions : length (positions net) ≡ length net.routers + length (all_ids (links_of net))
  length-positions =
      let ids : length (flat_map (ids_of (links_of net)) (router_ids net)) ≡ length (all_ids (links_of net)) = ap (λ n. length (flat_map (ids_of (links_of net)) (range_with_len 0 n))) (sym length-links_of) in
      let count = counted (router_ids net) in
      let routers = length-range (length net.routers) 0 in
      omega (arith, ids, count, routers)

  pub some_router : (q : Pos) → IsPosition net q → 1 ≤ length net.routers
  some_router (Own r) there = omega arith
  some_router (Entering i) there = let router = there.0 in omega arith

  pub as_few_as_the_network : (state : List RouterState) (h : Header) (q : Pos) (w : Walk) → IsPosition net q → IsWalk (plane_of net state) h q w → length w.positions ≤ length (positions net)
  as_few_as_the_network state h q w there walk =
      let few = few_positions (plane_of net state) h q w walk in
      let some = some_router q there in
      omega (arith, few, some, length-positions)
