-- What is told by what is kept of an area: the least walks inside it.
use Rattle.std.proofs.Common.{refl, ◌≡◌, ap, sym, ◌∙◌, subst, ℕ, zero, suc, ◌+◌, ◌<◌, inl, inr, Bool, true, false, cond, ◌&&◌, ◌||◌, nat_lt, List, [], ◌∷◌, ◌++◌, map, filter, take, drop, Option, Some, None, Contains, arith, eq-eqb}
use Rattle.std.specs.Prelude.{◌==◌, slice_get}
use Rattle.std.specs.List.{filter_map, cons_option, flat_map, list_any, slice_index_or}
use Rattle.std.specs.Option.{option_map, option_map_or}
use Rattle.std.proofs.Math.Decide.{ℕ_discrete}
use Rattle.std.proofs.lemmas.Bool.Decides.{nat_tests}
use Rattle.rc_base.specs.Lists.{in_order}
use Rattle.rc_route.specs.Hops.{hop_cmp}
use Rattle.rc_spf.specs.declared.graph.Edge.{Edge}
use Rattle.rc_link_state.specs.declared.columns.Column.{Column}
use Rattle.rc_link_state.specs.declared.step.Step.{Step}
use Rattle.rc_link_state.specs.declared.table.AreaWalks.{AreaWalks}
use Rattle.rc_link_state.specs.declared.transit.Attached.{Attached}
use Rattle.rc_link_state.specs.declared.transit.Transit.{Transit}
use Rattle.rc_link_state.specs.Adjacency.{hop_of}
use Rattle.rc_link_state.specs.Areas.{start_of, is_of, is_attached, attached_to, IsArea}
use Rattle.rc_link_state.specs.ByRouter.{of_router}
use Rattle.rc_link_state.specs.Columns.{cost_at, router_cost}
use Rattle.rc_link_state.specs.Graph.{AreOf, edges_by, edge_out, network_edges, plain_edge, steps_in, transits_in, turned}
use Rattle.rc_link_state.specs.HopsBy.{leads_on, hop_on, hop_by_step, leaves_by, arrives_at, hop_between, hops_from, hops_over, hops_by, left_from}
use Rattle.rc_link_state.specs.Inward.{IsColumn, IsLeftByNone, AreParted}
use Rattle.rc_link_state.specs.Tables.{column_of, hops_over_place, hops_towards, walks_in}
use Rattle.rc_link_state.specs.Towards.{AreCostsTo, IsPathTo}
use Rattle.rc_link_state.specs.Transits.{AreStepsBy, CostSomething, IsLeftFrom}
use Rattle.rc_link_state.specs.Walks.{IsWalk}
use Rattle.rc_link_state.proofs.ColumnLaws.{columns_are, turned_there}
use Rattle.rc_link_state.proofs.GraphLaws.{out_there}
use Rattle.rc_link_state.proofs.HopsByLaws.{Lowest, lowest, left_only, walks_are}
use Rattle.rc_link_state.proofs.Members.{contains_in, in_contains, in_back, in_filter, in_front, in_map, place_in}

-- ---- the hops by listed steps are those by a router's own

own_hops : (area r : ℕ) (costs : ℕ → Option ℕ) (c : ℕ) (listed : List Step) →
    filter_map (hop_by_step area r costs c) listed ≡ filter_map (hop_on costs c) (filter (λ (x : Step). start_of x == r) (steps_in area listed))
own_hops area r costs c [] = refl
own_hops area r costs c (x ∷ xs) = by (x.area == area) (own_hops area r costs c xs)
  where
    by_start : (b : Bool) → filter_map (hop_by_step area r costs c) xs ≡ filter_map (hop_on costs c) (filter (λ (y : Step). start_of y == r) (steps_in area xs)) →
        cons_option (cond (b && leads_on costs c x) (Some (hop_of x)) None) (filter_map (hop_by_step area r costs c) xs)
        ≡ filter_map (hop_on costs c) (cond b (x ∷ filter (λ (y : Step). start_of y == r) (steps_in area xs)) (filter (λ (y : Step). start_of y == r) (steps_in area xs)))
    by_start true rest = ap (cons_option (hop_on costs c x)) rest
    by_start false rest = rest

    by : (a : Bool) → filter_map (hop_by_step area r costs c) xs ≡ filter_map (hop_on costs c) (filter (λ (y : Step). start_of y == r) (steps_in area xs)) →
        cons_option (cond (a && ((x.out.router == r) && leads_on costs c x)) (Some (hop_of x)) None) (filter_map (hop_by_step area r costs c) xs)
        ≡ filter_map (hop_on costs c) (filter (λ (y : Step). start_of y == r) (cond a (x ∷ steps_in area xs) (steps_in area xs)))
    by true rest = by_start (x.out.router == r) rest
    by false rest = rest

-- ---- a router has no hops over a network to which it isn't attached

or_false : (a b : Bool) → (a || b) ≡ false → (a ≡ false) × (b ≡ false)
or_false true b is = absurd (cc is)
or_false false b is = (refl, is)

none_leave : (r left c : ℕ) (attached : List Attached) → list_any (is_of r) attached ≡ false → filter (leaves_by r left c) attached ≡ []
none_leave r left c [] none = refl
none_leave r left c (i ∷ is) none =
    let (first, rest) = or_false (is_of r i) (list_any (is_of r) is) none in
    by (i.out.router == r) first (none_leave r left c is rest)
  where
    by : (b : Bool) → b ≡ false → filter (leaves_by r left c) is ≡ [] → cond (b && (left + i.cost == c)) (i ∷ filter (leaves_by r left c) is) (filter (leaves_by r left c) is) ≡ []
    by true bad rest = absurd (cc bad)
    by false same rest = rest

no_hops : (r : ℕ) (costs : ℕ → Option ℕ) (c : ℕ) (t : Transit) → is_attached r t ≡ false → hops_over r costs c t ≡ []
no_hops r costs c t none = by (left_from costs t.attached)
  where
    by : (o : Option ℕ) → option_map_or (hops_from r costs c t.attached) o [] ≡ []
    by None = refl
    by (Some left) = ap (flat_map (λ i. map (hop_between i) (filter (arrives_at costs left) t.attached))) (none_leave r left c t.attached none)

-- ---- so those over networks are those over its own

own_networks : (w : AreaWalks) (r : ℕ) (col : Column) (c k : ℕ) (ts : List Transit) →
    ((j : ℕ) (t : Transit) → slice_get ts j ≡ Some t → (slice_get w.networks (k + j) ≡ Some t) × (cost_at col.left (k + j) ≡ left_from (cost_at col.costs) t.attached)) →
    flat_map (hops_over r (cost_at col.costs) c) ts ≡ flat_map (hops_over_place w r col c) (attached_to r k ts)
own_networks w r col c k [] at = refl
own_networks w r col c k (t ∷ ts) at = by (is_attached r t) refl (own_networks w r col c (suc k) ts (λ j u is. (let (there, left) = at (suc j) u is in (
  subst (λ m. slice_get w.networks m ≡ Some u) (let e : k + suc j ≡ suc k + j = omega arith in e) there,
  subst (λ m. cost_at col.left m ≡ left_from (cost_at col.costs) u.attached) (let e : k + suc j ≡ suc k + j = omega arith in e) left,
))))
  where
    here : hops_over r (cost_at col.costs) c t ≡ hops_over_place w r col c k
    here =
        let (there, left) = at 0 t refl in
        let placed : slice_get w.networks k ≡ Some t = subst (λ m. slice_get w.networks m ≡ Some t) (let e : k + 0 ≡ k = omega arith in e) there in
        let same : cost_at col.left k ≡ left_from (cost_at col.costs) t.attached = subst (λ m. cost_at col.left m ≡ left_from (cost_at col.costs) t.attached) (let e : k + 0 ≡ k = omega arith in e) left in
        ap (λ left. option_map_or (hops_from r (cost_at col.costs) c t.attached) left []) (sym same)
        ∙ ap (λ o. option_map_or (λ (u : Transit). option_map_or (hops_from r (cost_at col.costs) c u.attached) (cost_at col.left k) []) o []) (sym placed)

    by : (b : Bool) → is_attached r t ≡ b → flat_map (hops_over r (cost_at col.costs) c) ts ≡ flat_map (hops_over_place w r col c) (attached_to r (suc k) ts) →
        hops_over r (cost_at col.costs) c t ++ flat_map (hops_over r (cost_at col.costs) c) ts ≡ flat_map (hops_over_place w r col c) (cond b (k ∷ attached_to r (suc k) ts) (attached_to r (suc k) ts))
    by true is rest = ap (λ l. l ++ flat_map (hops_over r (cost_at col.costs) c) ts) here ∙ ap (λ l. hops_over_place w r col c k ++ l) rest
    by false is rest = ap (λ l. l ++ flat_map (hops_over r (cost_at col.costs) c) ts) (no_hops r (cost_at col.costs) c t is) ∙ rest

-- ---- a column's parts

-- what is left from a network is the least of what is left from those attached
left_is_lowest : (costs : ℕ → Option ℕ) (t : Transit) (left : Option ℕ) → IsLeftFrom costs t left → left ≡ left_from costs t.attached
left_is_lowest costs t (Some l) is = sym (left_only costs t l is)
left_is_lowest costs t None none = by (left_from costs t.attached) (lowest costs t.attached)
  where
    by : (o : Option ℕ) → Lowest costs t.attached o → None ≡ o
    by None low = refl
    by (Some m) low = absurd (let (i, has, at) = low.0 in let e : Some m ≡ None = sym at ∙ none i (in_contains t.attached i has) in cc)

at_front : (n : ℕ) (all : List (Option ℕ)) (r : ℕ) → router_cost n all r ≡ cost_at (take n all) r
at_front zero all r = by (nat_lt r 0) refl
  where
    by : (b : Bool) → nat_lt r 0 ≡ b → cond b (slice_index_or all r None) None ≡ None
    by true is = absurd (let lt : r < 0 = grind (arith, nat_tests) in omega (arith, lt))
    by false is = refl
at_front (suc n) [] r = by (nat_lt r (suc n)) None
  where
    by : (b : Bool) (d : Option ℕ) → cond b d d ≡ d
    by true d = refl
    by false d = refl
at_front (suc n) (o ∷ all) zero = let test : nat_lt 0 (suc n) ≡ true = grind (arith, nat_tests) in ap (λ b. cond b o None) test
at_front (suc n) (o ∷ all) (suc r) = let test : nat_lt (suc r) (suc n) ≡ nat_lt r n = grind (arith, nat_tests) in ap (λ b. cond b (slice_index_or all r None) None) test ∙ at_front n all r

at_back : (n : ℕ) (all : List (Option ℕ)) (k : ℕ) → slice_index_or all (n + k) None ≡ cost_at (drop n all) k
at_back zero [] k = refl
at_back zero (o ∷ all) zero = refl
at_back zero (o ∷ all) (suc k) = let e : 0 + suc k ≡ suc (0 + k) = omega arith in ap (λ m. slice_index_or (o ∷ all) m None) e ∙ at_back zero all k
at_back (suc n) [] k = refl
at_back (suc n) (o ∷ all) k = let e : suc n + k ≡ suc (n + k) = omega arith in ap (λ m. slice_index_or (o ∷ all) m None) e ∙ at_back n all k

-- ---- inside one area

module _ (n area : ℕ) (steps listed : List Step) (transits : List Transit) (of : AreOf n listed transits) (split : AreStepsBy listed transits steps) where
  -- a walk to another router arrives there by some step
  arrives : (r s : ℕ) (walk : List Step) → IsWalk steps area r walk s → ¬ (r ≡ s) → (x : Step) × Contains steps x × (x.area ≡ area) × (x.to ≡ s)
  arrives r s [] is other = absurd (other is)
  arrives r s (x ∷ walk) is other = by (ℕ_discrete x.to s) (arrives x.to s walk is.3)
    where
      by : Dec (x.to ≡ s) → (¬ (x.to ≡ s) → (y : Step) × Contains steps y × (y.area ≡ area) × (y.to ≡ s)) → (y : Step) × Contains steps y × (y.area ≡ area) × (y.to ≡ s)
      by (yes here) rest = (x, is.0, is.1, here)
      by (no apart) rest = rest apart

  -- an edge turned round leaves where a step arrives
  edge_from : (x : Step) → Contains steps x → x.area ≡ area → (e : Edge) × Contains (map turned (edges_by n area listed transits)) e × (e.from ≡ x.to)
  edge_from x has in_area = elim ((split x).0 has) [
    | inl there ↦ (
      turned (plain_edge x),
      turned_there (edges_by n area listed transits) (plain_edge x) (in_contains (edges_by n area listed transits) (plain_edge x)
          (in_front (map plain_edge (steps_in area listed)) (network_edges n (transits_in area transits)) (plain_edge x)
          (in_map plain_edge (steps_in area listed) x (in_filter (λ (y : Step). y.area == area) listed x (contains_in listed x there) (eq-eqb x.area area in_area))))),
      refl,
    )
    | inr (t, there, a) ↦
        (let same : t.area ≡ area = ap (λ (y : Step). y.area) a.step ∙ in_area in
        let (k, at) = place_in (transits_in area transits) t (in_filter (λ (u : Transit). u.area == area) transits t (contains_in transits t there) (eq-eqb t.area area same)) in (
          turned (edge_out (n + k) a.target),
          turned_there (edges_by n area listed transits) (edge_out (n + k) a.target) (in_contains (edges_by n area listed transits) (edge_out (n + k) a.target)
              (in_back (map plain_edge (steps_in area listed)) (network_edges n (transits_in area transits)) (edge_out (n + k) a.target)
              (out_there n (transits_in area transits) k t at a.target (contains_in t.attached a.target a.has_target)))),
          ap (λ (y : Step). y.to) a.step,
        ))
  ]

  -- so where none leaves no walk leads there
  none_leads : (r s : ℕ) → ¬ (r ≡ s) → IsLeftByNone (map turned (edges_by n area listed transits)) s → (walk : List Step) → IsWalk steps area r walk s → ⊥
  none_leads r s other none walk is =
      let (x, has, in_area, to) = arrives r s walk is other in
      let (e, there, from) = edge_from x has in_area in
      none.none e there (from ∙ to)

  module _ (dear : CostSomething transits) (wanted : List Bool) (w : AreaWalks) (here : w.area ≡ area) (is : IsArea n listed transits wanted w) (r s : ℕ) (in_range : r < n) where
    -- the hops that are told are those by all listed steps and networks
    hops_are : (c : ℕ) → ((k : ℕ) (t : Transit) → slice_get (transits_in area transits) k ≡ Some t → cost_at (column_of w s).left k ≡ left_from (cost_at (column_of w s).costs) t.attached) →
        hops_by listed transits area r (cost_at (column_of w s).costs) c ≡ hops_towards w r (column_of w s) c
    hops_are c lefts =
        let f : ℕ → Option ℕ = cost_at (column_of w s).costs in
        let nets : List Transit = transits_in area transits in
        let networks : w.networks ≡ nets = is.networks ∙ ap (λ a. transits_in a transits) here in
        let own : filter_map (hop_by_step area r f c) listed ≡ filter_map (hop_on f c) (of_router w.steps r) =
        own_hops area r f c listed ∙ ap (λ a. filter_map (hop_on f c) (filter (λ (x : Step). start_of x == r) (steps_in a listed))) (sym here) ∙ sym (ap (filter_map (hop_on f c)) (is.steps.own r in_range)) in
        let over : flat_map (hops_over r f c) nets ≡ flat_map (hops_over_place w r (column_of w s) c) (attached_to r 0 nets) =
        own_networks w r (column_of w s) c 0 nets (λ j t at. (
          subst (λ ts. slice_get ts (0 + j) ≡ Some t) (sym networks) (subst (λ m. slice_get nets m ≡ Some t) (let e : j ≡ 0 + j = omega arith in e) at),
          subst (λ m. cost_at (column_of w s).left m ≡ left_from f t.attached) (let e : j ≡ 0 + j = omega arith in e) (lefts j t at),
        )) in
        let own_over : flat_map (hops_over r f c) nets ≡ flat_map (hops_over_place w r (column_of w s) c) (of_router w.attached r) =
        over ∙ ap (λ ts. flat_map (hops_over_place w r (column_of w s) c) (attached_to r 0 ts)) (sym networks) ∙ sym (ap (flat_map (hops_over_place w r (column_of w s) c)) (is.attached.own r in_range)) in
        ap (λ l. in_order hop_cmp (l ++ flat_map (hops_over r f c) nets)) own ∙ ap (λ l. in_order hop_cmp (filter_map (hop_on f c) (of_router w.steps r) ++ l)) own_over

    told_by_costs : AreCostsTo steps area s (cost_at (column_of w s).costs) →
        ((k : ℕ) (t : Transit) → slice_get (transits_in area transits) k ≡ Some t → cost_at (column_of w s).left k ≡ left_from (cost_at (column_of w s).costs) t.attached) →
        IsPathTo steps r area s (walks_in w r s)
    told_by_costs are lefts = by (cost_at (column_of w s).costs r) (walks_are area steps listed transits split dear s (cost_at (column_of w s).costs) are r)
      where
        by : (o : Option ℕ) → IsPathTo steps r area s (option_map (λ c. record { cost = c; hops = hops_by listed transits area r (cost_at (column_of w s).costs) c }) o) →
            IsPathTo steps r area s (option_map (λ c. record { cost = c; hops = hops_towards w r (column_of w s) c }) o)
        by None none = none
        by (Some c) least = subst (λ hops. IsPathTo steps r area s (Some (record { cost = c; hops = hops }))) (hops_are c lefts) least

    told_by_parts : s < n → AreParted n (map turned (edges_by n area listed transits)) s (column_of w s) → IsPathTo steps r area s (walks_in w r s)
    told_by_parts lt parts =
        let (are, lefts) = columns_are n area steps listed transits of split s lt parts.costs parts.least in
        let same : router_cost n parts.costs ≡ cost_at (column_of w s).costs = λ i k. (at_front n parts.costs k ∙ ap (λ l. cost_at l k) (sym parts.routers)) i in
        told_by_costs (subst (AreCostsTo steps area s) same are) (λ k t at.
        sym (ap (λ l. cost_at l k) (sym parts.networks)) ∙ sym (at_back n parts.costs k)
        ∙ left_is_lowest (cost_at (column_of w s).costs) t (slice_index_or parts.costs (n + k) None) (subst (λ f. IsLeftFrom f t (slice_index_or parts.costs (n + k) None)) same (lefts k t at)))

    pub column_told : s < n → ¬ (r ≡ s) → slice_index_or wanted s false ≡ true → IsPathTo steps r area s (walks_in w r s)
    column_told lt other asked = by (subst (λ a. IsColumn n (map turned (edges_by n a listed transits)) s (column_of w s)) here (is.columns s lt asked))
      where
        by : IsColumn n (map turned (edges_by n area listed transits)) s (column_of w s) → IsPathTo steps r area s (walks_in w r s)
        by (inl (none, empty)) = subst (λ l. IsPathTo steps r area s (option_map (λ c. record { cost = c; hops = hops_towards w r (column_of w s) c }) (cost_at l r))) (sym empty) (none_leads r s other none)
        by (inr parts) = told_by_parts lt parts
