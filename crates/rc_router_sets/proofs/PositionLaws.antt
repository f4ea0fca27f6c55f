-- A move leads to a position of the network.
use Rattle.std.proofs.Common.{refl, ◌≡◌, ap, sym, ◌∙◌, subst, ℕ, ◌<◌, true, false, not, ◌&&◌, ◌||◌, ◌==◌, cond, List, ◌∷◌, map, length, Option, Some, None, inr, arith}
use Rattle.std.specs.List.{list_any, range_with_len, slice_get}
use Rattle.std.specs.Option.{option_map_or}
use Rattle.std.proofs.lemmas.Bool.{and_parts}
use Rattle.std.proofs.lemmas.List.{length-map}
use Rattle.rc_base.proofs.KeepLaws.{In, any_yes}
use Rattle.rc_base.specs.declared.header.Header.{Header}
use Rattle.rc_base.specs.declared.position.IfId.{IfId}
use Rattle.rc_base.specs.declared.position.Pos.{Pos}
use Rattle.rc_base.specs.declared.position.Pos.TheVariants.{Own, Entering}
use Rattle.rc_config.specs.Members.{interface_ids, interfaces_of, positions, router_ids}
use Rattle.rc_config.specs.declared.network.Network.{Network}
use Rattle.rc_config.specs.declared.router_text.RouterText.{RouterText}
use Rattle.rc_route.specs.declared.route.Hop.{Hop}
use Rattle.rc_route.specs.declared.route.Hop.TheVariants.{Null, Dev, Via}
use Rattle.rc_topology.specs.Links.{are_linked, is_cut, port_at, port_is, ports_at, share_subnet}
use Rattle.rc_topology.specs.Ports.{links_of, port_of, ports_of, share_prefix}
use Rattle.rc_topology.specs.declared.port.Port.{Port}
use Rattle.rc_moves.specs.Moves.{DataPlane, moves}
use Rattle.rc_moves.specs.declared.walk.Move.TheVariants.{Next}
use Rattle.rc_sets.proofs.LongestLaws.{map-in}
use Rattle.rc_base.specs.Header.{IsHeader}
use Rattle.rc_router_sets.specs.MoveTests.{same_move}
use Rattle.rc_router_sets.specs.Planes.{IsPlane}
use Rattle.rc_router_sets.proofs.Tests.{implies, implied, Tests8, try8}
use Rattle.rc_router_sets.proofs.PlaneLaws.{ports}
use Rattle.rc_router_sets.proofs.SentLaws.{is_forwarded}
use Rattle.rc_router_sets.proofs.MemberLaws.{in-flat_map, in-range, passes_there, some_ports, within_list}
use Rattle.rc_router_sets.proofs.HopMoveLaws.{by_hop, hops}
use Rattle.rc_router_sets.proofs.EdgeLaws.{by_hops-moves, dev_host, is_held, is_line, lets_out, loops_back, no_own, owns_gateway, owns_it, shares, some_owner, to_t, via_gateway}

module _ (net : Network) where
  -- an interface that is there is a position
  position_there : (i : IfId) (p : Port) → port_at (links_of net) i ≡ Some p → In (Entering i) (positions net)
  unfolding links_of
  position_there i p found =
      let router = some_ports (links_of net) i.router (slice_get (links_of net).ports i.router) i.index p found in
      let r : i.router < length (links_of net).ports = within_list (links_of net).ports i.router router.0 router.1 in
      let n : i.index < length (ports_at (links_of net) i.router) = within_list (ports_at (links_of net) i.router) i.index p found in
      let routers : length (links_of net).ports ≡ length net.routers = length-map net.routers (λ (e : List ℕ × RouterText). ports_of e.1) in
      let interfaces : length (ports_at (links_of net) i.router) ≡ length (interfaces_of net i.router) = ap length (ports net i.router) ∙ length-map (interfaces_of net i.router) (port_of (interfaces_of net i.router)) in
      in-flat_map (λ r. Own r ∷ map Entering (interface_ids net r)) i.router (Entering i) (router_ids net) (in-range i.router 0 (length net.routers) (omega arith) (omega arith))
      (inr (map-in Entering i (interface_ids net i.router) (map-in (λ n. record { router = i.router; index = n }) i.index (range_with_len 0 (length (interfaces_of net i.router))) (in-range i.index 0 (length (interfaces_of net i.router)) (omega arith) (omega arith)))))

  linked_there : (i t : IfId) → are_linked (links_of net) i t ≡ true → In (Entering t) (positions net)
  linked_there i t linked = by (port_at (links_of net) i) (and_parts (not (i.router == t.router)) (option_map_or (λ p. port_is (links_of net) (share_prefix p) t) (port_at (links_of net) i) false) (and_parts (share_subnet (links_of net) i t) (not (is_cut (links_of net) i t)) linked).0).1
    where
      by : (o : Option Port) → option_map_or (λ p. port_is (links_of net) (share_prefix p) t) o false ≡ true → In (Entering t) (positions net)
      by None e = absurd (let x : false ≡ true = e in cc)
      by (Some p) e = let found = passes_there (links_of net) (share_prefix p) t (port_at (links_of net) t) e in position_there t found.0 found.1

module _ (plane : DataPlane) (ok : IsPlane plane) (h : Header) (header : IsHeader h) (q : Pos) where
  abbrev dev_links : Tests8
  dev_links l lo k o s u d z = implies (cond l (cond lo false ((k && o) || (not u && cond d false (cond s (k || false) false)))) false) k

  abbrev via_links : Tests8
  via_links l lo k o a b c d = implies (cond l (cond lo false ((k && o) || false)) false) k

  -- a hop leads only onto an interface that shares a link with its own
  hop_there : (t : IfId) (x : Hop) → by_hop (to_t plane ok h header q t) plane h q x ≡ true → In (Entering t) (positions plane.network)
  hop_there t Null e = absurd (let x : false ≡ true = e in cc)
  hop_there t (Dev i) e =
      let is : cond (lets_out plane ok h header q t i) (cond (loops_back plane ok h header q t i) false ((shares plane ok h header q t i && owns_it plane ok h header q t i) || (not (some_owner plane ok h header q t i) && cond (is_held plane ok h header q t i) false (cond (is_line plane ok h header q t i) (shares plane ok h header q t i || false) false)))) false ≡ true
      = ap (λ b. cond (lets_out plane ok h header q t i) b false) (sym (dev_host plane ok h header q t i)) ∙ e in
      let linked : are_linked plane.links i t ≡ true
      = implied _ _ (try8 dev_links refl (lets_out plane ok h header q t i) (loops_back plane ok h header q t i) (shares plane ok h header q t i) (owns_it plane ok h header q t i) (is_line plane ok h header q t i) (some_owner plane ok h header q t i) (is_held plane ok h header q t i) true) is in
      linked_there plane.network i t (subst (λ l. are_linked l i t ≡ true) ok.links linked)
  hop_there t (Via g None) e = absurd (let x : false ≡ true = e in cc)
  hop_there t (Via g (Some i)) e =
      let is : cond (lets_out plane ok h header q t i) (cond (loops_back plane ok h header q t i) false ((shares plane ok h header q t i && owns_gateway plane ok h header q t i g) || false)) false ≡ true
      = ap (λ b. cond (lets_out plane ok h header q t i) b false) (sym (via_gateway plane ok h header q t i g)) ∙ e in
      let linked : are_linked plane.links i t ≡ true
      = implied _ _ (try8 via_links refl (lets_out plane ok h header q t i) (loops_back plane ok h header q t i) (shares plane ok h header q t i) (owns_gateway plane ok h header q t i g) true true true true) is in
      linked_there plane.network i t (subst (λ l. are_linked l i t ≡ true) ok.links linked)

  -- a position to which a move leads is one of the network's
  pub move_there : (t : Pos) → list_any (same_move (Next t)) (moves plane h q) ≡ true → In t (positions plane.network)
  move_there (Own r) some =
      let m = same_move (Next (Own r)) in
      let parts = and_parts (is_forwarded plane ok h header q) (list_any (by_hop m plane h q) (hops m plane h q)) (sym (by_hops-moves plane ok h header q m (refl, refl, refl)) ∙ some) in
      let clash : false ≡ true = sym (no_own plane ok h header q r (hops m plane h q)) ∙ parts.1 in
      absurd (cc)
  move_there (Entering t) some =
      let m = same_move (Next (Entering t)) in
      let parts = and_parts (is_forwarded plane ok h header q) (list_any (by_hop m plane h q) (hops m plane h q)) (sym (by_hops-moves plane ok h header q m (refl, refl, refl)) ∙ some) in
      let one = any_yes (by_hop m plane h q) (hops m plane h q) parts.1 in
      hop_there t one.0 one.2
