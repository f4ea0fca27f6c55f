-- A walk has no more positions than the network.
use Rattle.std.proofs.Common.{refl, ◌≡◌, ap, ℕ, ◌+◌, ◌≤◌, Bool, true, false, cond, List, [], ◌∷◌, map, length, All, Contains, Option, Some, None, is_some, arith}
use Rattle.std.specs.Prelude.{unwrap_or, flat_map}
use Rattle.std.specs.List.{list_any, IsDistinct}
use Rattle.std.proofs.lemmas.List.{length-map}
use Rattle.std.proofs.lemmas.List.Elements.{All-append, All-cons, All-nil, All-map, All-filter, All-weaker, All-contains, Contains-append_right}
use Rattle.std.proofs.lemmas.Map.Keys.{IsDistinct-tail}
use Rattle.std.proofs.lemmas.Map.Made.{length-le_from_is_member, is_member-Decides}
use Rattle.rc_base.specs.declared.header.Header.{Header}
use Rattle.rc_base.specs.declared.ending.Kind.TheVariants.{DeniedIn, Accepted, NoRoute, NullRouted, DeniedOut, Unreachable, Exits, Delivered}
use Rattle.rc_base.specs.declared.position.IfId.{IfId}
use Rattle.rc_base.specs.declared.position.Pos.{Pos}
use Rattle.rc_base.specs.declared.position.Pos.TheVariants.{Entering}
use Rattle.rc_base.specs.Positions.{same_position}
use Rattle.rc_topology.specs.Topology.{Topology}
use Rattle.rc_topology.specs.Ports.{owns, is_loopback, is_serial}
use Rattle.rc_topology.specs.Links.{all_ids, are_linked, linked, takers, is_own, holds, port_is}
use Rattle.rc_route.specs.declared.route.Hop.{Hop}
use Rattle.rc_route.specs.declared.route.Hop.TheVariants.{Null, Dev, Via}
use Rattle.rc_fib.specs.Forwarding.{resolved_hops}
use Rattle.rc_moves.specs.declared.walk.Move.{Move}
use Rattle.rc_moves.specs.declared.walk.Move.TheVariants.{Next, End}
use Rattle.rc_moves.specs.declared.walk.Walk.{Walk}
use Rattle.rc_moves.specs.Moves.{DataPlane, is_let_in, is_let_out, moves, moves_by, moves_by_hops, moves_inside, moves_on_link, moves_onto_or, moves_out_of, moves_over, router_of, fib_of}
use Rattle.rc_moves.specs.Walks.{AreMoves, IsWalk}
use Rattle.rc_moves.proofs.PositionLaws.{same_position-Decides, same_position-laws}

all-cond : {A : Type 0} (P : A → Type 0) (b : Bool) (xs ys : List A) → All P xs → All P ys → All P (cond b xs ys)
all-cond P true xs ys h g = h
all-cond P false xs ys h g = g

all-flat_map : {A B : Type 0} (P : B → Type 0) (f : A → List B) → ((x : A) → All P (f x)) → (xs : List A) → All P (flat_map f xs)
all-flat_map P f each [] = All-nil P
all-flat_map P f each (x ∷ xs) = All-append P (f x) (flat_map f xs) (each x) (all-flat_map P f each xs)

-- ---- a move leads onto an interface of the network, or is an ending

module _ (links : Topology) where
  -- the positions at which a packet enters a router
  abbrev pub entries : List Pos
  entries = map Entering (all_ids links)

  abbrev pub LeadsIn : Move → Type 0
  LeadsIn (Next t) = Contains entries t
  LeadsIn (End kind) = Unit {0}

  IsThere : IfId → Type 0
  IsThere i = Contains entries (Entering i)

  entering : (is : List IfId) → All (λ i. Contains (map Entering is) (Entering i)) is
  entering [] = All-nil (λ i. Contains [] (Entering i))
  entering (i ∷ is) =
      All-cons (λ j. Contains (map Entering (i ∷ is)) (Entering j)) i is (0, omega arith, refl) (All-weaker (λ j. Contains (map Entering is) (Entering j)) (λ j. Contains (map Entering (i ∷ is)) (Entering j)) (λ j there. Contains-append_right (Entering i ∷ []) (map Entering is) (Entering j) there) is (entering is))

  all_there : All IsThere (all_ids links)
  unfolding IsThere
  all_there = entering (all_ids links)

  linked_there : (i : IfId) → All IsThere (linked links i)
  linked_there i = All-filter (are_linked links i) IsThere (all_ids links) all_there

  takers_there : (i : IfId) (a : ℕ) → All IsThere (takers links i a)
  takers_there i a = All-filter (port_is links (owns a)) IsThere (linked links i) (linked_there i)

  one : (kind : _) → All LeadsIn (End kind ∷ [])
  one kind = All-cons LeadsIn (End kind) [] tt (All-nil LeadsIn)

  onto_or : (is : List IfId) (others : List Move) → All IsThere is → All LeadsIn others → All LeadsIn (moves_onto_or is others)
  unfolding IsThere
  onto_or [] others there rest = rest
  onto_or (i ∷ is) others there rest = All-map LeadsIn (λ j. Next (Entering j)) (i ∷ is) there

  module _ (h : Header) where
    on_link : (i : IfId) → All LeadsIn (moves_on_link links h i)
    on_link i =
        let exits : List Move = End Exits ∷ [] in
        let shared : List Move = moves_onto_or (linked links i) exits in
        all-cond LeadsIn (holds links i h.dst) (End Delivered ∷ []) (cond (port_is links is_serial i) shared exits) (one Delivered) (all-cond LeadsIn (port_is links is_serial i) shared exits (onto_or (linked links i) exits (linked_there i) (one Exits)) (one Exits))

    out_of : (i : IfId) (g : Option ℕ) → All LeadsIn (moves_out_of links h i g)
    out_of i g =
        let exits : List Move = End Exits ∷ [] in
        let past : List Move = cond (is_some g) exits (moves_on_link links h i) in
        let there : List IfId = takers links i (unwrap_or g h.dst) in
        let past_leads : All LeadsIn past = all-cond LeadsIn (is_some g) exits (moves_on_link links h i) (one Exits) (on_link i) in
        all-cond LeadsIn (port_is links is_loopback i) (End Unreachable ∷ []) (moves_onto_or there past) (one Unreachable) (onto_or there past (takers_there i (unwrap_or g h.dst)) past_leads)

module _ (plane : DataPlane) (h : Header) where
  abbrev Leads : Move → Type 0
  Leads m = LeadsIn plane.links m

  module _ (q : Pos) where
    over : (i : IfId) (g : Option ℕ) → All Leads (moves_over plane h q i g)
    over i g =
        all-cond Leads (is_let_out plane.network h q i) (moves_out_of plane.links h i g) (End DeniedOut ∷ []) (out_of plane.links h i g) (one plane.links DeniedOut)

    by_hop : (hop : Hop) → All Leads (moves_by plane h q hop)
    by_hop Null = one plane.links NullRouted
    by_hop (Dev i) = over i None
    by_hop (Via g None) = All-nil Leads
    by_hop (Via g (Some i)) = over i (Some g)

    by_hops : (hops : List Hop) → All Leads (moves_by_hops plane h q hops)
    by_hops [] = one plane.links NoRoute
    by_hops (x ∷ xs) = all-flat_map Leads (moves_by plane h q) by_hop (x ∷ xs)

    inside : All Leads (moves_inside plane h q)
    inside =
        let hops : List Hop = resolved_hops (fib_of plane (router_of q)) h.dst in
        all-cond Leads (is_own plane.links (router_of q) h.dst) (End Accepted ∷ []) (moves_by_hops plane h q hops) (one plane.links Accepted) (by_hops hops)

    lead_in : All Leads (moves plane h q)
    lead_in = all-cond Leads (is_let_in plane.network h q) (moves_inside plane h q) (End DeniedIn ∷ []) inside (one plane.links DeniedIn)

  pub steps_enter : (q : Pos) (ts : List Pos) → AreMoves plane h q ts → All (Contains (entries plane.links)) ts
  steps_enter q [] m = All-nil (Contains (entries plane.links))
  steps_enter q (t ∷ ts) m =
      All-cons (Contains (entries plane.links)) t ts (All-contains (LeadsIn plane.links) (moves plane h q) (Next t) (lead_in q) m.0) (steps_enter t ts m.1)

  -- positions that a walk comes to stand each once
  pub few_steps : (q : Pos) (ts : List Pos) → AreMoves plane h q ts → IsDistinct same_position (q ∷ ts) → length ts ≤ length (all_ids plane.links)
  few_steps q ts m d =
      let all : All (Contains (entries plane.links)) ts = steps_enter q ts m in
      let among : (p : Pos) → list_any (same_position p) ts ≡ true → list_any (same_position p) (entries plane.links) ≡ true = λ p e. (is_member-Decides same_position-Decides (entries plane.links) p).1 (All-contains (Contains (entries plane.links)) ts p all ((is_member-Decides same_position-Decides ts p).0 e)) in
      let few : length ts ≤ length (entries plane.links) = length-le_from_is_member same_position-laws ts (entries plane.links) (IsDistinct-tail same_position q ts d) among in
      omega (arith, few, length-map (all_ids plane.links) Entering)

  -- a walk has at most one position more than the network has interfaces
  pub few_positions : (q : Pos) (w : Walk) → IsWalk plane h q w → length w.positions ≤ 1 + length (all_ids plane.links)
  few_positions q w a =
      let few : length a.steps ≤ length (all_ids plane.links) = few_steps q a.steps a.each a.once in
      let long : length w.positions ≡ length (q ∷ a.steps) = ap length a.positions in
      omega (arith, few, long)
