-- The graph of an area turned round, and what is left on the way to its routers.
use Rattle.std.proofs.Common.{refl, ◌≡◌, ap, sym, ◌∙◌, subst, ℕ, zero, suc, ◌+◌, ◌*◌, ◌<◌, ◌≤◌, inl, inr, Bool, true, false, not, cond, nat_lt, List, [], ◌∷◌, map, take, drop, length, get_or, Option, Some, None, All, Contains, Result, Ok, Err, IfOk, arith, Vec}
use Rattle.std.specs.Prelude.{slice_get, ◌==◌}
use Rattle.std.specs.List.{slice_index_or}
use Rattle.std.specs.declared.alloc.AllocError.{AllocError}
use Rattle.std.specs.declared.alloc.Global.{Global}
use Rattle.std.proofs.lemmas.Bool.Decides.{nat_tests}
use Rattle.std.proofs.lemmas.Grind.{common_steps}
use Rattle.std.proofs.lemmas.List.Elements.{Contains-get_or}
use Rattle.rc_shares.specs.Stretches.{IsStretch}
use Rattle.rc_spf.specs.declared.graph.Edge.{Edge}
use Rattle.rc_spf.specs.declared.graph.Graph.{Graph}
use Rattle.rc_spf.specs.declared.graph.Groups.{Groups}
use Rattle.rc_spf.specs.Steps.{AreGroups, AreBounded, AreLeastCosts, HasShortWalks, cost_to_enter}
use Rattle.rc_spf.specs.Weights.{first_cost}
use Rattle.rc_spf.proofs.Entering.{first_nodes}
use Rattle.rc_link_state.specs.declared.columns.Column.{Column}
use Rattle.rc_link_state.specs.declared.columns.Inward.{Inward}
use Rattle.rc_link_state.specs.declared.step.Step.{Step}
use Rattle.rc_link_state.specs.declared.transit.Attached.{Attached}
use Rattle.rc_link_state.specs.declared.transit.Transit.{Transit}
use Rattle.rc_link_state.specs.Columns.{cost_at, AreSmall}
use Rattle.rc_link_state.specs.Graph.{AreOf, CostLittle, IsTurned, area_edges, network_edges, plain_edge, edge_into, edge_out, turned}
use Rattle.rc_link_state.specs.Inward.{IsReady, IsOut, IsMade, AreColumns}
use Rattle.rc_link_state.proofs.ColumnLaws.{turned_back}
use Rattle.rc_link_state.proofs.GraphLaws.{IsAtNetwork, kind_of}
use Rattle.rc_link_state.proofs.Members.{In, contains_in, in_contains, of_map, in_either, in_place}

-- ---- costs at places

pub cost_or : (costs : List (Option ℕ)) (k : ℕ) → cost_at costs k ≡ slice_index_or costs k None
cost_or [] k = refl
cost_or (o ∷ costs) zero = refl
cost_or (o ∷ costs) (suc k) = cost_or costs k

in_front : (n : ℕ) (costs : List (Option ℕ)) (k c : ℕ) → cost_at (take n costs) k ≡ Some c → cost_at costs k ≡ Some c
in_front zero costs k c is = absurd (cc is)
in_front (suc n) [] k c is = is
in_front (suc n) (o ∷ costs) zero c is = is
in_front (suc n) (o ∷ costs) (suc k) c is = in_front n costs k c is

pub small_in_front : (n : ℕ) (costs : List (Option ℕ)) → AreSmall costs → AreSmall (take n costs)
small_in_front n costs small = record { small = λ k c is. small.small k c (in_front n costs k c is) }

-- ---- the edges turned round

within : {X : Type 0} (xs : List X) (k : ℕ) (x : X) → slice_get xs k ≡ Some x → k < length xs
within [] k x is = absurd (cc)
within (y ∷ ys) zero x is = omega arith
within (y ∷ ys) (suc k) x is = let lt : k < length ys = within ys k x is in omega (arith, lt)

-- their ends are nodes, and they cost no more than that
record IsFine (n nodes : ℕ) (e : Edge) : Type 0 where
  pub from : e.from < nodes
  pub to : e.to < nodes
  pub dear : e.cost ≤ first_cost n 65535 e.to

first_is : (n k c : ℕ) → k < n → c ≤ 65535 → c ≤ first_cost n 65535 k
first_is n k c lt le = by (nat_lt k n) refl
  where
    by : (b : Bool) → nat_lt k n ≡ b → c ≤ cond b 65535 0
    by true is = le
    by false is = absurd (let not_lt : n ≤ k = grind (arith, nat_tests) in omega (arith, lt, not_lt))

module _ (n : ℕ) (steps : List Step) (networks : List Transit) (of : AreOf n steps networks) (little : CostLittle steps networks) where
  fine_plain : (e : Edge) (x : Step) → In x steps → plain_edge x ≡ turned e → IsFine n (n + length networks) e
  fine_plain e x has same =
      let there : Contains steps x = in_contains steps x has in
      let to : x.out.router ≡ e.to = ap (λ (f : Edge). f.from) same in
      let from : x.to ≡ e.from = ap (λ (f : Edge). f.to) same in
      let cost : x.cost ≡ e.cost = ap (λ (f : Edge). f.cost) same in
      let leave : x.out.router < n = of.leave x there in
      let arrive : x.to < n = of.arrive x there in
      let most : x.cost ≤ 65535 = little.step x there in
      record { from = omega (arith, from, arrive); to = omega (arith, to, leave); dear = first_is n e.to e.cost (omega (arith, to, leave)) (omega (arith, cost, most)) }

  fine_into : (e : Edge) → IsAtNetwork n networks edge_into (turned e) → IsFine n (n + length networks) e
  fine_into e at =
      let t : Transit = at.network in
      let i : Attached = at.interface in
      let has_t : Contains networks t = in_contains networks t (in_place networks at.place t at.at) in
      let has_i : Contains t.attached i = in_contains t.attached i at.has in
      let to : i.out.router ≡ e.to = ap (λ (f : Edge). f.from) at.same in
      let from : n + at.place ≡ e.from = ap (λ (f : Edge). f.to) at.same in
      let cost : i.cost ≡ e.cost = ap (λ (f : Edge). f.cost) at.same in
      let attach : i.out.router < n = of.attach t i has_t has_i in
      let most : i.cost ≤ 65535 = little.interface t i has_t has_i in
      let place : at.place < length networks = within networks at.place t at.at in
      record { from = omega (arith, from, place); to = omega (arith, to, attach); dear = first_is n e.to e.cost (omega (arith, to, attach)) (omega (arith, cost, most)) }

  fine_out : (e : Edge) → IsAtNetwork n networks edge_out (turned e) → IsFine n (n + length networks) e
  fine_out e at =
      let t : Transit = at.network in
      let i : Attached = at.interface in
      let has_t : Contains networks t = in_contains networks t (in_place networks at.place t at.at) in
      let to : n + at.place ≡ e.to = ap (λ (f : Edge). f.from) at.same in
      let from : i.out.router ≡ e.from = ap (λ (f : Edge). f.to) at.same in
      let cost : 0 ≡ e.cost = ap (λ (f : Edge). f.cost) at.same in
      let attach : i.out.router < n = of.attach t i has_t (in_contains t.attached i at.has) in
      let place : at.place < length networks = within networks at.place t at.at in
      record { from = omega (arith, from, attach); to = omega (arith, to, place); dear = omega (arith, cost) }

  fine : (e : Edge) → Contains (map turned (area_edges n steps networks)) e → IsFine n (n + length networks) e
  fine e has = elim (in_either (map plain_edge steps) (network_edges n networks) (turned e) (contains_in (area_edges n steps networks) (turned e) (turned_back (area_edges n steps networks) e has))) [
    | inl front ↦ (let (x, there, same) = of_map plain_edge steps (turned e) front in fine_plain e x there same)
    | inr back ↦ elim (kind_of n networks (turned e) back) [ inl at ↦ fine_into e at | inr at ↦ fine_out e at ]
  ]

  fine_in : (g : Graph) → IsTurned n steps networks g → (e : Edge) → Contains g.edges.items e → IsFine n g.nodes e
  fine_in g is e has = subst (λ m. IsFine n m e) (sym is.nodes) (fine e (subst (λ es. Contains es e) is.edges has))

  pub ends_are : (g : Graph) → IsTurned n steps networks g → All (λ (e : Edge). (e.from < g.nodes) × (e.to < g.nodes)) g.edges.items
  ends_are g is k d lt = let f = fine_in g is (get_or g.edges.items k d) (Contains-get_or g.edges.items k d lt) in (f.from, f.to)

  pub are_ready : (g : Graph) (groups : Groups) (wanted : Vec Bool Global) (few : ℕ) → n ≤ 512 → IsTurned n steps networks g → AreGroups g groups → length wanted.items ≡ n →
      IsReady (record { routers = n; graph = g; groups = groups; wanted = wanted; few = few })
  are_ready g groups wanted few le is grouped len = record {
    few = le;
    routers = let nodes : g.nodes ≡ n + length networks = is.nodes in omega (arith, nodes);
    ends = ends_are g is;
    dearest = λ e has. (fine_in g is e has).dear;
    groups = grouped;
    wanted = len;
  }

-- ---- what the search wants

at_most : (n k : ℕ) → first_cost n 65535 k ≤ 65535
at_most n k = by (nat_lt k n)
  where
    by : (b : Bool) → cond b 65535 0 ≤ 65535
    by true = omega arith
    by false = omega arith

pub short_walks : (g : Inward) → IsReady g → HasShortWalks g.graph
short_walks g ready = record {
  dear = first_cost g.routers 65535;
  dearest = ready.dearest;
  sum = λ e has.
      (let all : cost_to_enter (first_cost g.routers 65535) 0 g.graph.nodes ≤ g.routers * 65535 = first_nodes g.routers 65535 g.graph.nodes in
      let one : e.cost ≤ first_cost g.routers 65535 e.to = ready.dearest e has in
      let most : first_cost g.routers 65535 e.to ≤ 65535 = at_most g.routers e.to in
      let few : g.routers ≤ 512 = ready.few in
      omega (arith, all, one, most, few));
}

pub small_costs : (g : Inward) (costs : List (Option ℕ)) → IsReady g → AreBounded costs g.graph → AreSmall costs
small_costs g costs ready bounded = record {
  small = λ k c at.
      (let le : c ≤ cost_to_enter (first_cost g.routers 65535) 0 g.graph.nodes = bounded.bound (first_cost g.routers 65535) ready.dearest k c (sym (cost_or costs k) ∙ at) in
      let all : cost_to_enter (first_cost g.routers 65535) 0 g.graph.nodes ≤ g.routers * 65535 = first_nodes g.routers 65535 g.graph.nodes in
      let few : g.routers ≤ 512 = ready.few in
      omega (arith, le, all, few));
}

-- ---- what is made of a router

-- it isn't wanted, or no edge leaves it
pub out_unwanted : (g : Inward) (s : ℕ) → slice_index_or g.wanted.items s false ≡ false → IsOut g s
out_unwanted g s is = record { none = λ wanted. absurd (let e : true ≡ false = sym wanted ∙ is in cc) }

pub out_left_by_none : (g : Inward) (s : ℕ) (d : Vec (Edge) Global) → IsReady g → s < g.routers → (get_or g.groups.outgoing.items s d).items ≡ [] → IsOut g s
out_left_by_none g s d ready lt empty = record {
  none = λ wanted. record {
    none = λ e has from. absurd
        (let le : g.routers ≤ g.graph.nodes = ready.routers in
        let member = (ready.groups.members s d e (omega (arith, lt, le))).1 (has, from) in
        let (j, bad, same) = subst (λ (es : List Edge). Contains es e) empty member in omega (arith, bad));
  };
}

pub empty_of : {X : Type 0} (xs : List X) → not (length xs == 0) ≡ false → xs ≡ []
empty_of [] is = refl
empty_of (x ∷ xs) is = absurd (grind (arith, common_steps, nat_tests))

pub made_of_none : (g : Inward) (s : ℕ) (c : Column) → c.costs ≡ [] → IsOut g s → IsMade g s c
made_of_none g s c empty out = record {
  small = record { small = λ k x at. absurd (let none : cost_at [] k ≡ Some x = subst (λ l. cost_at l k ≡ Some x) empty at in cc) };
  is = λ wanted. inl (out.none wanted, empty);
}

pub made_of_costs : (g : Inward) (s : ℕ) (costs : List (Option ℕ)) → AreSmall costs → AreLeastCosts g.graph s costs →
    (c : Column) → c.costs ≡ take g.routers costs → c.left ≡ drop g.routers costs → IsMade g s c
made_of_costs g s costs small least c routers networks = record {
  small = subst AreSmall (sym routers) (small_in_front g.routers costs small);
  is = λ wanted. inr (record { costs = costs; least = least; routers = routers; networks = networks });
}

pub made_of_parts : (g : Inward) (s : ℕ) (costs read : List (Option ℕ)) → read ≡ costs → AreSmall read → AreLeastCosts g.graph s costs →
    (r : Result Column AllocError) → IfOk r (λ c. c.costs ≡ take g.routers read) → IfOk r (λ c. c.left ≡ drop g.routers read) → IfOk r (IsMade g s)
made_of_parts g s costs read same small least (Err e) routers networks = tt
made_of_parts g s costs read same small least (Ok c) routers networks =
    made_of_costs g s costs (subst AreSmall same small) least c (routers ∙ ap (take g.routers) same) (networks ∙ ap (drop g.routers) same)

-- ---- what workers made of all routers

stretch_len : {X : Type 0} (makes : ℕ → X → Type 0) (a b : ℕ) (xs : List X) → IsStretch makes a b xs → a + length xs ≡ b
unfolding IsStretch
stretch_len makes a b [] is = omega (arith, is)
stretch_len makes a b (x ∷ xs) is = let more : a + 1 + length xs ≡ b = stretch_len makes (a + 1) b xs is.1 in omega (arith, more)

stretch_at : {X : Type 0} (makes : ℕ → X → Type 0) (a b : ℕ) (xs : List X) → IsStretch makes a b xs → (k : ℕ) (d : X) → k < length xs → makes (a + k) (get_or xs k d)
unfolding IsStretch
stretch_at makes a b [] is k d lt = absurd (omega (arith, lt))
stretch_at makes a b (x ∷ xs) is zero d lt = subst (λ m. makes m x) (let e : a ≡ a + 0 = omega arith in e) is.0
stretch_at makes a b (x ∷ xs) is (suc k) d lt = subst (λ m. makes m (get_or xs k d)) (let e : a + 1 + k ≡ a + suc k = omega arith in e) (stretch_at makes (a + 1) b xs is.1 k d (omega (arith, lt)))

pub all_made : (g : Inward) (columns : List Column) → IsStretch (IsMade g) 0 g.routers columns → AreColumns g columns
all_made g columns is =
    let len : 0 + length columns ≡ g.routers = stretch_len (IsMade g) 0 g.routers columns is in record {
      len = omega (arith, len);
      each = λ s d lt. subst (λ m. IsMade g m (get_or columns s d)) (let e : 0 + s ≡ s = omega arith in e) (stretch_at (IsMade g) 0 g.routers columns is s d (omega (arith, lt, len)));
    }
