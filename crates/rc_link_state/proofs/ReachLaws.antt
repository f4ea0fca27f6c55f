-- What is told of all areas: the least walks of a network.
use Rattle.std.proofs.Common.{refl, ◌≡◌, ap, sym, ◌∙◌, subst, ℕ, ◌+◌, ◌<◌, ◌≤◌, ◌⊎◌, inl, inr, Bool, true, false, cond, List, [], ◌∷◌, map, length, Option, Some, None, All, Contains, Result, Ok, Err, IfOk, arith, eq-eqb}
use Rattle.std.specs.Prelude.{◌==◌, option_and_then, find}
use Rattle.std.specs.List.{AllByRecursion, slice_index_or}
use Rattle.std.specs.Ordering.{nat_cmp}
use Rattle.std.specs.declared.alloc.AllocError.{AllocError}
use Rattle.std.specs.declared.cmp.Ordering.TheVariants.{Equal}
use Rattle.std.specs.FinMap.{nat_cmp-IsAntisymmetric}
use Rattle.std.proofs.Math.Decide.{dec_lt}
use Rattle.std.proofs.lemmas.List.{get_or_past}
use Rattle.std.proofs.lemmas.List.Elements.{All-contains}
use Rattle.rc_base.specs.Lists.{in_order}
use Rattle.rc_topology.specs.Topology.{Topology}
use Rattle.rc_ospf_interfaces.specs.declared.interface.OspfInterface.{OspfInterface}
use Rattle.rc_link_state.specs.declared.end.End.{End}
use Rattle.rc_link_state.specs.declared.step.Step.{Step}
use Rattle.rc_link_state.specs.declared.table.AreaWalks.{AreaWalks}
use Rattle.rc_link_state.specs.declared.transit.Transit.{Transit}
use Rattle.rc_link_state.specs.Adjacency.{adjacencies}
use Rattle.rc_link_state.specs.Asked.{IsAsked, IsAskedArea, AreAreas, areas_in, end_area, network_area, step_area}
use Rattle.rc_link_state.specs.Graph.{AreOf}
use Rattle.rc_link_state.specs.Kept.{area_of}
use Rattle.rc_link_state.specs.Tables.{IsFit, AreWalksOf, AreWalksTo, column_of, is_of_area, none_left, nowhere, reach_in, walks_by_column, walks_in}
use Rattle.rc_link_state.specs.Towards.{IsPathTo}
use Rattle.rc_link_state.specs.Transits.{AreStepsBy, CostSomething}
use Rattle.rc_link_state.specs.Walks.{AreLeastWalks, IsLeastWalk, IsWalk, first_hop, walk_cost}
use Rattle.rc_link_state.specs.Whole.{AreSplit}
use Rattle.rc_link_state.proofs.HopOrderLaws.{none_rise}
use Rattle.rc_link_state.proofs.Members.{In, contains_in, in_back, in_contains, in_front, in_map, in_order_in}
use Rattle.rc_link_state.proofs.SplitFits.{listed_cost, split_costs_something, split_of}
use Rattle.rc_link_state.proofs.ToldLaws.{column_told}
use Rattle.rc_link_state.proofs.WholeLaws.{split_is}

-- ---- the entry of an area

found : (area : ℕ) (walks : List AreaWalks) (w : AreaWalks) → find (is_of_area area) walks ≡ Some w → In w walks × (w.area ≡ area)
found area [] w is = absurd (cc is)
found area (v ∷ vs) w is = by (v.area == area) refl is (found area vs w)
  where
    by : (b : Bool) → (v.area == area) ≡ b → cond b (Some v) (find (is_of_area area) vs) ≡ Some w → (find (is_of_area area) vs ≡ Some w → In w vs × (w.area ≡ area)) → In w (v ∷ vs) × (w.area ≡ area)
    by true at here rest = let same : v ≡ w = cc here in (inl same, ap area_of (sym same) ∙ grind (arith, at))
    by false at here rest = let (has, in_area) = rest here in (inr has, in_area)

not_found : (area : ℕ) (walks : List AreaWalks) → find (is_of_area area) walks ≡ None → In area (map area_of walks) → ⊥
not_found area [] is there = absurd there
not_found area (v ∷ vs) is there = by (v.area == area) refl is there (not_found area vs)
  where
    by : (b : Bool) → (v.area == area) ≡ b → cond b (Some v) (find (is_of_area area) vs) ≡ None → (v.area ≡ area) ⊎ In area (map area_of vs) → (find (is_of_area area) vs ≡ None → In area (map area_of vs) → ⊥) → ⊥
    by true at here there rest = cc here
    by false at here (inl same) rest = let other : (v.area == area) ≡ true = eq-eqb v.area area same in cc (at, other)
    by false at here (inr later) rest = rest here later

-- ---- the walk without steps

module _ (steps : List Step) (cost_something : (x : Step) → Contains steps x → 1 ≤ x.cost) where
  stays : (area r : ℕ) → IsLeastWalk steps area r r []
  stays area r = record { is_walk = refl; least = λ other is. omega arith }

  none_first : (area r : ℕ) (walk : List Step) → IsLeastWalk steps area r r walk → first_hop walk ≡ None
  none_first area r [] least = refl
  none_first area r (x ∷ walk) least = absurd
      (let le : x.cost + walk_cost walk ≤ 0 = least.least [] refl in
      let some : 1 ≤ x.cost = cost_something x least.is_walk.0 in omega (arith, le, some))

  nowhere_least : (area r : ℕ) → AreLeastWalks steps area r r nowhere
  nowhere_least area r = record {
    cost = ([], stays area r, refl);
    hops = λ h. (
      λ has. absurd (let (k, bad, same) = has in omega (arith, bad)),
      λ first. absurd (let (walk, least, is) = first in let none : None ≡ Some h = sym (none_first area r walk least) ∙ is in cc),
    );
    in_order = none_rise;
  }

-- ---- all areas

module _ (n : ℕ) (steps listed : List Step) (transits : List Transit) (of : AreOf n listed transits) (split : AreStepsBy listed transits steps) (dear : CostSomething transits)
    (cost_something : (x : Step) → Contains listed x → 1 ≤ x.cost) where
  each_costs : (x : Step) → Contains steps x → 1 ≤ x.cost
  each_costs x has = elim ((split x).0 has) [
    | inl there ↦ cost_something x there
    | inr (t, there, a) ↦ subst (λ (y : Step). 1 ≤ y.cost) a.step (dear t a.source there a.has_source)
  ]

  each_arrives : (x : Step) → Contains steps x → x.to < n
  each_arrives x has = elim ((split x).0 has) [
    | inl there ↦ of.arrive x there
    | inr (t, there, a) ↦ subst (λ (y : Step). y.to < n) a.step (of.attach t a.target there a.has_target)
  ]

  each_area : (x : Step) → Contains steps x → In x.area (areas_in listed transits)
  each_area x has = elim ((split x).0 has) [
    | inl there ↦ in_front (map step_area listed) (map network_area transits) x.area (in_map step_area listed x (contains_in listed x there))
    | inr (t, there, a) ↦ in_back (map step_area listed) (map network_area transits) x.area
        (subst (λ (y : Step). In y.area (map network_area transits)) a.step (in_map network_area transits t (contains_in transits t there)))
  ]

  walk_end : (area r s : ℕ) (walk : List Step) → IsWalk steps area r walk s → (r ≡ s) ⊎ (s < n)
  walk_end area r s [] is = inl is
  walk_end area r s (x ∷ walk) is = elim (walk_end area x.to s walk is.3) [
    | inl here ↦ inr (subst (λ k. k < n) here (each_arrives x is.0))
    | inr lt ↦ inr lt
  ]

  module _ (all : Bool) (ends : List End) (areas : List ℕ) (walks : List AreaWalks) (are : AreAreas n listed transits all ends areas walks) where
    entry : (w : AreaWalks) → In w walks → IsAskedArea n listed transits all ends w
    entry w has = All-contains (IsAskedArea n listed transits all ends) walks w are.each (in_contains walks w has)

    -- inside the area of an entry
    inside : (w : AreaWalks) (area r s : ℕ) → In w walks → w.area ≡ area → r < n → ¬ (r ≡ s) → IsAsked all ends area s → Dec (s < n) → IsPathTo steps r area s (walks_in w r s)
    inside w area r s has here lt other asked (yes in_range) =
        let e = entry w has in
        let told : slice_index_or e.wanted s false ≡ true =
        e.asked.each s (let len : length e.wanted ≡ n = e.len in omega (arith, len, in_range)) (subst (λ a. IsAsked all ends a s) (sym here) asked) in
        column_told n area steps listed transits of split dear e.wanted w here e.is r s lt in_range other told
    inside w area r s has here lt other asked (no beyond) =
        let e = entry w has in
        let long : length w.columns ≡ n = e.is.len in
        let none : column_of w s ≡ none_left = get_or_past w.columns s none_left (omega (arith, long, beyond)) in
        subst (λ c. IsPathTo steps r area s (walks_by_column w r c)) (sym none) (λ walk is. elim (walk_end area r s walk is) [ inl same ↦ other same | inr less ↦ beyond less ])

    -- the areas that are kept have all its steps
    Covers : ℕ → Type 0
    Covers area = (x : Step) → Contains steps x → x.area ≡ area → In area (map area_of walks)

    no_entry : (area r s : ℕ) → Covers area → ¬ (r ≡ s) → find (is_of_area area) walks ≡ None → (walk : List Step) → IsWalk steps area r walk s → ⊥
    unfolding Covers
    no_entry area r s covers other none [] is = other is
    no_entry area r s covers other none (x ∷ walk) is = not_found area walks none (covers x is.0 is.1)

    told : (r area s : ℕ) → r < n → IsAsked all ends area s → Covers area → IsPathTo steps r area s (reach_in walks r area s)
    unfolding reach_in
    told r area s lt asked covers = by (s == r) refl
      where
        from_entry : ¬ (r ≡ s) → (o : Option AreaWalks) → find (is_of_area area) walks ≡ o → IsPathTo steps r area s (option_and_then (λ (w : AreaWalks). walks_in w r s) o)
        from_entry other None none = no_entry area r s covers other none
        from_entry other (Some w) is = let (has, here) = found area walks w is in inside w area r s has here lt other asked (dec_lt s n)

        by : (b : Bool) → (s == r) ≡ b → IsPathTo steps r area s (cond b (Some nowhere) (option_and_then (λ (w : AreaWalks). walks_in w r s) (find (is_of_area area) walks)))
        by true is = subst (λ k. AreLeastWalks steps area r k nowhere) (let e : r ≡ s = grind (arith, is) in e) (nowhere_least steps each_costs area r)
        by false is = from_entry (λ same. (let test : (s == r) ≡ true = eq-eqb s r (sym same) in cc (is, test))) (find (is_of_area area) walks) refl

-- ---- what the table tells

nat_same : (x y : ℕ) → nat_cmp x y ≡ Equal → x ≡ y
nat_same x y is = nat_cmp-IsAntisymmetric x y is

in_kept : (areas : List ℕ) (walks : List AreaWalks) → map area_of walks ≡ in_order nat_cmp areas → (area : ℕ) → In area areas → In area (map area_of walks)
in_kept areas walks is area has = subst (In area) (sym is) ((in_order_in nat_cmp nat_same areas area).1 has)

each_end : {X : Type 0} (P : X → Type 0) (xs : List X) → ((x : X) → In x xs → P x) → AllByRecursion P xs
each_end P [] each = tt
each_end P (x ∷ xs) each = (each x (inl refl), each_end P xs (λ y has. each y (inr has)))

module _ (links : Topology) (interfaces : List OspfInterface) (listed : List Step) (transits : List Transit) (split : AreSplit links interfaces listed transits) (n : ℕ) (fit : All (IsFit n) interfaces) where
  by : AreStepsBy listed transits (adjacencies links interfaces)
  by = split_is links interfaces listed transits split

  pub told_to_all : (ends : List End) (walks : List AreaWalks) → AreAreas n listed transits true ends (in_order nat_cmp (areas_in listed transits)) walks → AreWalksOf (adjacencies links interfaces) n walks
  unfolding Covers
  told_to_all ends walks are = record {
    reach = λ r lt area s.
        told n (adjacencies links interfaces) listed transits (split_of links interfaces listed transits split n fit) by (split_costs_something links interfaces listed transits split n fit)
        (λ x has. (listed_cost links interfaces listed transits split n fit x has).0) true ends (in_order nat_cmp (areas_in listed transits)) walks are r area s lt (inl refl)
        (λ x has in_area. in_kept (areas_in listed transits) walks are.which area (subst (λ a. In a (areas_in listed transits)) in_area
        (each_area n (adjacencies links interfaces) listed transits (split_of links interfaces listed transits split n fit) by (split_costs_something links interfaces listed transits split n fit)
        (λ y there. (listed_cost links interfaces listed transits split n fit y there).0) x has)));
  }

  pub told_to_ends : (ends : List End) (walks : List AreaWalks) → AreAreas n listed transits false ends (in_order nat_cmp (map end_area ends)) walks → AreWalksTo (adjacencies links interfaces) n ends walks
  unfolding Covers
  told_to_ends ends walks are = record {
    reach = λ r lt. each_end (λ (e : End). IsPathTo (adjacencies links interfaces) r e.area e.router (reach_in walks r e.area e.router)) ends (λ e has.
        told n (adjacencies links interfaces) listed transits (split_of links interfaces listed transits split n fit) by (split_costs_something links interfaces listed transits split n fit)
        (λ x there. (listed_cost links interfaces listed transits split n fit x there).0) false ends (in_order nat_cmp (map end_area ends)) walks are r e.area e.router lt (inr (in_contains ends e has))
        (λ x there in_area. in_kept (map end_area ends) walks are.which e.area (in_map end_area ends e has)));
  }

-- ---- by what the code knows of the areas

module _ (links : Topology) (interfaces : List OspfInterface) (listed : List Step) (transits : List Transit) (split : AreSplit links interfaces listed transits) (n : ℕ) (fit : All (IsFit n) interfaces)
    (ends : List End) (areas : List ℕ) (walks : List AreaWalks) (table : Result (List AreaWalks) AllocError) (made : IfOk table (λ t. t ≡ walks)) where
  pub table_to_all : areas ≡ in_order nat_cmp (areas_in listed transits) → AreAreas n listed transits true ends areas walks → IfOk table (AreWalksOf (adjacencies links interfaces) n)
  table_to_all are kept = by table made
    where
      by : (r : Result (List AreaWalks) AllocError) → IfOk r (λ t. t ≡ walks) → IfOk r (AreWalksOf (adjacencies links interfaces) n)
      by (Err e) is = tt
      by (Ok t) is = subst (AreWalksOf (adjacencies links interfaces) n) (sym is) (told_to_all links interfaces listed transits split n fit ends walks (subst (λ a. AreAreas n listed transits true ends a walks) are kept))

  pub table_to_ends : areas ≡ in_order nat_cmp (map end_area ends) → AreAreas n listed transits false ends areas walks → IfOk table (AreWalksTo (adjacencies links interfaces) n ends)
  table_to_ends are kept = by table made
    where
      by : (r : Result (List AreaWalks) AllocError) → IfOk r (λ t. t ≡ walks) → IfOk r (AreWalksTo (adjacencies links interfaces) n ends)
      by (Err e) is = tt
      by (Ok t) is = subst (AreWalksTo (adjacencies links interfaces) n ends) (sym is) (told_to_ends links interfaces listed transits split n fit ends walks (subst (λ a. AreAreas n listed transits false ends a walks) are kept))
