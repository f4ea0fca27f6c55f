-- Walks over the graph of an area, and walks over its steps.
use Rattle.std.proofs.Common.{refl, ◌≡◌, ap, sym, ◌∙◌, subst, ℕ, zero, suc, ◌+◌, ◌<◌, ◌≤◌, ◌⊎◌, inl, inr, List, [], ◌∷◌, ◌++◌, map, Option, Some, None, Contains, arith}
use Rattle.std.proofs.Math.Decide.{ℕ_discrete}
use Rattle.std.specs.Prelude.{slice_get}
use Rattle.rc_spf.specs.declared.graph.Edge.{Edge}
use Rattle.rc_spf.specs.Walks as E
use Rattle.rc_link_state.specs.Walks.{IsWalk, IsLeastWalk, walk_cost}
use Rattle.rc_link_state.specs.Towards.{IsCostFrom}
use Rattle.rc_link_state.specs.declared.step.Step.{Step}
use Rattle.rc_link_state.specs.declared.transit.Attached.{Attached}
use Rattle.rc_link_state.specs.declared.transit.Transit.{Transit}
use Rattle.rc_link_state.specs.Graph.{plain_edge, edge_into, edge_out, network_edges, area_edges}
use Rattle.rc_link_state.specs.Laws.{IsCostOver}
use Rattle.rc_link_state.specs.Transits.{across, IsLeftFrom}
use Rattle.rc_link_state.proofs.Members.{In, contains_in, in_contains, in_map, of_map, in_front, in_back, in_either, place_in, in_place}

-- ---- the edges of networks

-- the edge leads into a network, or out of it
pub record IsAtNetwork (node : ℕ) (ts : List Transit) (end : ℕ → Attached → Edge) (e : Edge) : Type 0 where
  pub place : ℕ
  pub network : Transit
  pub at : slice_get ts place ≡ Some network
  pub interface : Attached
  pub has : In interface network.attached
  pub same : end (node + place) interface ≡ e

pub into_there : (node : ℕ) (ts : List Transit) (k : ℕ) (t : Transit) → slice_get ts k ≡ Some t → (i : Attached) → In i t.attached → In (edge_into (node + k) i) (network_edges node ts)
into_there node [] k t at i has = absurd (cc)
into_there node (u ∷ ts) zero t at i has =
    let same : u ≡ t = cc in
    subst (λ m. In (edge_into m i) (network_edges node (u ∷ ts))) (omega arith)
    (in_front (map (edge_into node) u.attached) (map (edge_out node) u.attached ++ network_edges (node + 1) ts) (edge_into node i)
    (in_map (edge_into node) u.attached i (subst (λ (v : Transit). In i v.attached) (sym same) has)))
into_there node (u ∷ ts) (suc k) t at i has =
    in_back (map (edge_into node) u.attached) (map (edge_out node) u.attached ++ network_edges (node + 1) ts) (edge_into (node + suc k) i)
    (in_back (map (edge_out node) u.attached) (network_edges (node + 1) ts) (edge_into (node + suc k) i)
    (subst (λ m. In (edge_into m i) (network_edges (node + 1) ts)) (omega arith) (into_there (node + 1) ts k t at i has)))

pub out_there : (node : ℕ) (ts : List Transit) (k : ℕ) (t : Transit) → slice_get ts k ≡ Some t → (i : Attached) → In i t.attached → In (edge_out (node + k) i) (network_edges node ts)
out_there node [] k t at i has = absurd (cc)
out_there node (u ∷ ts) zero t at i has =
    let same : u ≡ t = cc in
    subst (λ m. In (edge_out m i) (network_edges node (u ∷ ts))) (omega arith)
    (in_back (map (edge_into node) u.attached) (map (edge_out node) u.attached ++ network_edges (node + 1) ts) (edge_out node i)
    (in_front (map (edge_out node) u.attached) (network_edges (node + 1) ts) (edge_out node i)
    (in_map (edge_out node) u.attached i (subst (λ (v : Transit). In i v.attached) (sym same) has))))
out_there node (u ∷ ts) (suc k) t at i has =
    in_back (map (edge_into node) u.attached) (map (edge_out node) u.attached ++ network_edges (node + 1) ts) (edge_out (node + suc k) i)
    (in_back (map (edge_out node) u.attached) (network_edges (node + 1) ts) (edge_out (node + suc k) i)
    (subst (λ m. In (edge_out m i) (network_edges (node + 1) ts)) (omega arith) (out_there (node + 1) ts k t at i has)))

pub kind_of : (node : ℕ) (ts : List Transit) (e : Edge) → In e (network_edges node ts) → IsAtNetwork node ts edge_into e ⊎ IsAtNetwork node ts edge_out e
kind_of node [] e there = absurd there
kind_of node (u ∷ ts) e there = elim (in_either (map (edge_into node) u.attached) (map (edge_out node) u.attached ++ network_edges (node + 1) ts) e there) [
  | inl front ↦ (let (i, has, same) = of_map (edge_into node) u.attached e front in
      inl (record { place = 0; network = u; at = refl; interface = i; has = has; same = ap (λ m. edge_into m i) (omega arith) ∙ same }))
  | inr more ↦ elim (in_either (map (edge_out node) u.attached) (network_edges (node + 1) ts) e more) [
    | inl front ↦ (let (i, has, same) = of_map (edge_out node) u.attached e front in
        inr (record { place = 0; network = u; at = refl; interface = i; has = has; same = ap (λ m. edge_out m i) (omega arith) ∙ same }))
    | inr rest ↦ elim (kind_of (node + 1) ts e rest) [
      | inl a ↦ inl (record { place = suc a.place; network = a.network; at = a.at; interface = a.interface; has = a.has; same = ap (λ m. edge_into m a.interface) (omega arith) ∙ a.same })
      | inr a ↦ inr (record { place = suc a.place; network = a.network; at = a.at; interface = a.interface; has = a.has; same = ap (λ m. edge_out m a.interface) (omega arith) ∙ a.same })
    ]
  ]
]

-- ---- what steps and networks of one area are

pub record AreOfArea (n area : ℕ) (steps own : List Step) (ts : List Transit) : Type 0 where
  pub listed : (x : Step) → In x own → Contains steps x × (x.area ≡ area)
  pub over : (t : Transit) → In t ts → (i j : Attached) → In i t.attached → In j t.attached → ¬ (i.out.router ≡ j.out.router) → Contains steps (across area i j)
  pub only : (x : Step) → Contains steps x → x.area ≡ area →
      In x own ⊎ ((t : Transit) × In t ts × (i : Attached) × (j : Attached) × In i t.attached × In j t.attached × (across area i j ≡ x))
  pub leave : (x : Step) → In x own → x.out.router < n
  pub arrive : (x : Step) → In x own → x.to < n
  pub attach : (t : Transit) → In t ts → (i : Attached) → In i t.attached → i.out.router < n

module _ (n area : ℕ) (steps own : List Step) (ts : List Transit) (are : AreOfArea n area steps own ts) (s : ℕ) (in_range : s < n) where
  edges : List Edge
  edges = area_edges n own ts

  -- ---- a walk over the steps is one over the edges, for the same cost

  plain_there : (x : Step) → In x own → Contains edges (plain_edge x)
  unfolding edges
  plain_there x has = in_contains edges (plain_edge x) (in_front (map plain_edge own) (network_edges n ts) (plain_edge x) (in_map plain_edge own x has))

  network_there : (e : Edge) → In e (network_edges n ts) → Contains edges e
  unfolding edges
  network_there e has = in_contains edges e (in_back (map plain_edge own) (network_edges n ts) e has)

  to_edges : (a : ℕ) (walk : List Step) → IsWalk steps area a walk s → (over : List Edge) × E.IsWalk edges a over s × (E.walk_cost over ≡ walk_cost walk)
  to_edges a [] is = ([], is, refl)
  to_edges a (x ∷ walk) is = by (are.only x is.0 is.1) (to_edges x.to walk is.3)
    where
      by : In x own ⊎ ((t : Transit) × In t ts × (i : Attached) × (j : Attached) × In i t.attached × In j t.attached × (across area i j ≡ x)) →
          ((over : List Edge) × E.IsWalk edges x.to over s × (E.walk_cost over ≡ walk_cost walk)) →
          (over : List Edge) × E.IsWalk edges a over s × (E.walk_cost over ≡ x.cost + walk_cost walk)
      by (inl has) (over, there, cost) = (plain_edge x ∷ over, (plain_there x has, is.2, there), omega (arith, cost))
      by (inr (t, has, i, j, has_i, has_j, same)) (over, there, cost) =
          let (k, at) = place_in ts t has in
          let to : j.out.router ≡ x.to = ap (λ (y : Step). y.to) same in
          let from : i.out.router ≡ a = ap (λ (y : Step). y.out.router) same ∙ is.2 in
          let first : i.cost ≡ x.cost = ap (λ (y : Step). y.cost) same in (
            edge_into (n + k) i ∷ edge_out (n + k) j ∷ over,
            (
              network_there (edge_into (n + k) i) (into_there n ts k t at i has_i),
              from,
              (network_there (edge_out (n + k) j) (out_there n ts k t at j has_j), refl, subst (λ b. E.IsWalk edges b over s) (sym to) there),
            ),
            omega (arith, cost, first),
          )

  -- ---- a walk over the edges has one over the steps, for the same cost or less

  record Reaches (a most : ℕ) : Type 0 where
    pub walk : List Step
    pub is : IsWalk steps area a walk s
    pub le : walk_cost walk ≤ most

  -- from a router itself, from a network's node from some router that is attached to it
  record ReachesFrom (a most : ℕ) : Type 0 where
    pub router : a < n → Reaches a most
    pub network : (k : ℕ) (t : Transit) → n + k ≡ a → slice_get ts k ≡ Some t → (i : Attached) × In i t.attached × Reaches i.out.router most

  over_plain : (a : ℕ) (e : Edge) (most : ℕ) (x : Step) → In x own → plain_edge x ≡ e → e.from ≡ a → ReachesFrom e.to most → ReachesFrom a (e.cost + most)
  over_plain a e most x has same from rest =
      let leaves : x.out.router ≡ a = ap (λ (f : Edge). f.from) same ∙ from in
      let cost : x.cost ≡ e.cost = ap (λ (f : Edge). f.cost) same in
      let to : x.to ≡ e.to = ap (λ (f : Edge). f.to) same in
      let on : Reaches e.to most = rest.router (subst (λ b. b < n) to (are.arrive x has)) in
      let le : walk_cost on.walk ≤ most = on.le in
      let is = are.listed x has in record {
        router = λ lt. record { walk = x ∷ on.walk; is = (is.0, is.1, leaves, subst (λ b. IsWalk steps area b on.walk s) (sym to) on.is); le = omega (arith, le, cost) };
        network = λ k t node at. absurd (let lt : x.out.router < n = are.leave x has in omega (arith, lt, leaves, node));
      }

  into_network : (a : ℕ) (e : Edge) (most : ℕ) → IsAtNetwork n ts edge_into e → e.from ≡ a → ReachesFrom e.to most → ReachesFrom a (e.cost + most)
  into_network a e most at from rest =
      let i : Attached = at.interface in
      let t : Transit = at.network in
      let has_t : In t ts = in_place ts at.place t at.at in
      let leaves : i.out.router ≡ a = ap (λ (f : Edge). f.from) at.same ∙ from in
      let cost : i.cost ≡ e.cost = ap (λ (f : Edge). f.cost) at.same in
      let (j, has_j, on) = rest.network at.place t (ap (λ (f : Edge). f.to) at.same) at.at in
      record {
        router = λ lt. by t has_t i j at.has has_j on (ℕ_discrete i.out.router j.out.router) leaves cost;
        network = λ k u node place. absurd (let lt : i.out.router < n = are.attach t has_t i at.has in omega (arith, lt, leaves, node));
      }
    where
      by : (t : Transit) → In t ts → (i j : Attached) → In i t.attached → In j t.attached → Reaches j.out.router most → Dec (i.out.router ≡ j.out.router) → i.out.router ≡ a → i.cost ≡ e.cost →
          Reaches a (e.cost + most)
      by t has_t i j has_i has_j on (yes same) leaves cost =
          record { walk = on.walk; is = subst (λ b. IsWalk steps area b on.walk s) (sym same ∙ leaves) on.is; le = let le : walk_cost on.walk ≤ most = on.le in omega (arith, le) }
      by t has_t i j has_i has_j on (no apart) leaves cost =
          record { walk = across area i j ∷ on.walk; is = (are.over t has_t i j has_i has_j apart, refl, leaves, on.is); le = let le : walk_cost on.walk ≤ most = on.le in omega (arith, le, cost) }

  out_of_network : (a : ℕ) (e : Edge) (most : ℕ) → IsAtNetwork n ts edge_out e → e.from ≡ a → ReachesFrom e.to most → ReachesFrom a (e.cost + most)
  out_of_network a e most at from rest =
      let i : Attached = at.interface in
      let t : Transit = at.network in
      let has_t : In t ts = in_place ts at.place t at.at in
      let leaves : n + at.place ≡ a = ap (λ (f : Edge). f.from) at.same ∙ from in
      let to : i.out.router ≡ e.to = ap (λ (f : Edge). f.to) at.same in
      let on : Reaches e.to most = rest.router (subst (λ b. b < n) to (are.attach t has_t i at.has)) in
      let le : walk_cost on.walk ≤ most = on.le in
      record {
        router = λ lt. absurd (omega (arith, lt, leaves));
        network = λ k u node place.
            (let p : at.place ≡ k = omega (arith, leaves, node) in
            let some : Some t ≡ Some u = sym (subst (λ m. slice_get ts m ≡ Some t) p at.at) ∙ place in
            let same : t ≡ u = cc in (
              i,
              subst (λ (v : Transit). In i v.attached) same at.has,
              record { walk = on.walk; is = subst (λ b. IsWalk steps area b on.walk s) (sym to) on.is; le = omega (arith, le) },
            ));
      }

  from_edges : (walk : List Edge) (a : ℕ) → E.IsWalk edges a walk s → ReachesFrom a (E.walk_cost walk)
  unfolding edges
  from_edges [] a is = record {
    router = λ lt. record { walk = []; is = is; le = omega arith };
    network = λ k t node at. absurd (omega (arith, is, node, in_range));
  }
  from_edges (e ∷ walk) a is = elim (in_either (map plain_edge own) (network_edges n ts) e (contains_in edges e is.0)) [
    | inl front ↦ (let (x, has, same) = of_map plain_edge own e front in over_plain a e (E.walk_cost walk) x has same is.1 (from_edges walk e.to is.2))
    | inr back ↦ elim (kind_of n ts e back) [
      | inl at ↦ into_network a e (E.walk_cost walk) at is.1 (from_edges walk e.to is.2)
      | inr at ↦ out_of_network a e (E.walk_cost walk) at is.1 (from_edges walk e.to is.2)
    ]
  ]

  -- ---- so their least costs are the same

  least_cost : (r c : ℕ) → r < n → E.IsLeastCost edges r s c → (walk : List Step) × IsLeastWalk steps area r s walk × (walk_cost walk ≡ c)
  least_cost r c lt (over, least, total) =
      let on : Reaches r (E.walk_cost over) = (from_edges over r least.is_walk).router lt in
      let le : walk_cost on.walk ≤ E.walk_cost over = on.le in
      let dear : (other : List Step) → IsWalk steps area r other s → E.walk_cost over ≤ walk_cost other =
      (λ other there. (let (v, is, same) = to_edges r other there in let less : E.walk_cost over ≤ E.walk_cost v = least.least v is in omega (arith, less, same))) in (
        on.walk,
        record { is_walk = on.is; least = λ other there. (let less : E.walk_cost over ≤ walk_cost other = dear other there in omega (arith, le, less)) },
        (let less : E.walk_cost over ≤ walk_cost on.walk = dear on.walk on.is in omega (arith, le, less, total)),
      )

  pub costs_are : (r : ℕ) → r < n → (cost : Option ℕ) → IsCostOver (area_edges n own ts) r s cost → IsCostFrom steps area s r cost
  unfolding edges
  costs_are r lt None none = λ walk there. (let (v, is, same) = to_edges r walk there in none v is)
  costs_are r lt (Some c) least = least_cost r c lt least

  -- ---- what is left from a network on

  module _ (costs : ℕ → Option ℕ) (known : (r : ℕ) → r < n → IsCostFrom steps area s r (costs r)) where
    cost_is : (r c : ℕ) → r < n → costs r ≡ Some c → (walk : List Step) × IsLeastWalk steps area r s walk × (walk_cost walk ≡ c)
    cost_is r c lt is = subst (IsCostFrom steps area s r) is (known r lt)

    some_cost : (r : ℕ) → r < n → (walk : List Step) → IsWalk steps area r walk s → (c : ℕ) × (costs r ≡ Some c) × (c ≤ walk_cost walk)
    some_cost r lt walk is = by (costs r) refl (known r lt)
      where
        by : (o : Option ℕ) → costs r ≡ o → IsCostFrom steps area s r o → (c : ℕ) × (costs r ≡ Some c) × (c ≤ walk_cost walk)
        by None at none = absurd (none walk is)
        by (Some c) at found = (let (w, least, total) = found in let le : walk_cost w ≤ walk_cost walk = least.least walk is in (c, at, omega (arith, le, total)))

    -- a walk from the network's node, by a router that is attached to it
    by_router : (k : ℕ) (t : Transit) → slice_get ts k ≡ Some t → (i : Attached) → In i t.attached → (c : ℕ) → costs i.out.router ≡ Some c →
        (over : List Edge) × E.IsWalk edges (n + k) over s × (E.walk_cost over ≡ c)
    by_router k t at i has c is =
        let (w, least, total) = cost_is i.out.router c (are.attach t (in_place ts k t at) i has) is in
        let (v, there, same) = to_edges i.out.router w least.is_walk in (
          edge_out (n + k) i ∷ v,
          (network_there (edge_out (n + k) i) (out_there n ts k t at i has), refl, there),
          omega (arith, total, same),
        )

    pub left_is : (k : ℕ) (t : Transit) → slice_get ts k ≡ Some t → (left : Option ℕ) → IsCostOver (area_edges n own ts) (n + k) s left → IsLeftFrom costs t left
    unfolding edges
    left_is k t at None none = λ i has. by i (contains_in t.attached i has) (costs i.out.router) refl
      where
        by : (i : Attached) → In i t.attached → (o : Option ℕ) → costs i.out.router ≡ o → o ≡ None
        by i has None is = refl
        by i has (Some c) is = absurd (let (over, there, same) = by_router k t at i has c is in none over there)
    left_is k t at (Some l) (over, least, total) =
        let lower : (i : Attached) (c : ℕ) → Contains t.attached i → costs i.out.router ≡ Some c → l ≤ c =
        (λ i c has is. (let (v, there, same) = by_router k t at i (contains_in t.attached i has) c is in
        let le : E.walk_cost over ≤ E.walk_cost v = least.least v there in omega (arith, le, total, same))) in
        let (i, has, on) = (from_edges over (n + k) least.is_walk).network k t refl at in
        let le : walk_cost on.walk ≤ E.walk_cost over = on.le in
        let (c, is, less) = some_cost i.out.router (are.attach t (in_place ts k t at) i has) on.walk on.is in
        let more : l ≤ c = lower i c (in_contains t.attached i has) is in
        let same : c ≡ l = omega (arith, le, less, more, total) in (
          (i, in_contains t.attached i has, is ∙ ap Some same),
          lower,
        )
