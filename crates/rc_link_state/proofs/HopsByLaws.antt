-- The least walks as they are made: the costs of a table, and the hops by listed steps and networks.
use Rattle.std.proofs.Common.{refl, ◌≡◌, ap, sym, ◌∙◌, subst, ℕ, ◌+◌, ◌<◌, ◌≤◌, ◌==◌, ◌↔◌, inl, inr, Bool, true, false, cond, ◌&&◌, nat_lt, List, [], ◌∷◌, ◌++◌, map, filter, Option, Some, None, MatchOption, Contains, arith, eq-eqb}
use Rattle.std.proofs.lemmas.Bool.Decides.{nat_tests}
use Rattle.std.specs.List.{filter_map, flat_map}
use Rattle.std.specs.Option.{option_map, option_map_or}
use Rattle.rc_base.specs.Lists.{in_order}
use Rattle.rc_base.proofs.OrderedLaws.{in_order-sorted}
use Rattle.rc_route.specs.Hops.{hop_cmp}
use Rattle.rc_route.specs.declared.route.Hop.{Hop}
use Rattle.rc_route.proofs.OrderLaws.{hop_cmp_total, same_by_hop_cmp}
use Rattle.rc_link_state.specs.Adjacency.{hop_of}
use Rattle.rc_link_state.specs.Towards.{IsPathTo, LeadsOn}
use Rattle.rc_link_state.specs.declared.step.Step.{Step}
use Rattle.rc_link_state.specs.Graph.{transits_in}
use Rattle.rc_link_state.specs.HopsBy.{leads_by, hop_by_step, lower, left_from, leaves_by, arrives_at, hop_between, hops_from, hops_over, hops_by, WalksAreThose}
use Rattle.rc_link_state.specs.Transits.{IsLeftFrom, LeadsAcross, LeadsOnBy}
use Rattle.rc_link_state.specs.declared.transit.Attached.{Attached}
use Rattle.rc_link_state.specs.declared.transit.Transit.{Transit}
use Rattle.rc_link_state.proofs.HopLaws.{hops_are}
use Rattle.rc_link_state.proofs.Members.{In, contains_in, in_contains, in_map, of_map, in_front, in_back, in_either, in_filter, of_filter, in_order_in}
use Rattle.rc_link_state.proofs.TowardsLaws.{in_filter_map, towards, none_towards}
use Rattle.rc_link_state.proofs.WholeLaws.{both, and_true, in_flat, of_flat}

-- ---- what is left from a network

abbrev pub Lowest : (ℕ → Option ℕ) → List Attached → Option ℕ → Type 0
Lowest costs is left = MatchOption left ((i : Attached) → In i is → costs i.out.router ≡ None)
    (λ l. ((i : Attached) × In i is × (costs i.out.router ≡ Some l)) × ((i : Attached) (c : ℕ) → In i is → costs i.out.router ≡ Some c → l ≤ c))

one_number : (a b : ℕ) → Some a ≡ Some b → a ≡ b
one_number a b e = cc

lowest_more : (costs : ℕ → Option ℕ) (i : Attached) (is : List Attached) (o u : Option ℕ) → costs i.out.router ≡ o → Lowest costs is u → Lowest costs (i ∷ is) (lower o u)
lowest_more costs i is None None e rest = λ k there. elim there [ inl same ↦ ap (λ (a : Attached). costs a.out.router) (sym same) ∙ e | inr later ↦ rest k later ]
lowest_more costs i is None (Some l) e rest = (
  (let (k, has, at) = rest.0 in (k, inr has, at)),
  λ k c there at. elim there [
    | inl same ↦ absurd (let none : Some c ≡ None = sym at ∙ ap (λ (a : Attached). costs a.out.router) (sym same) ∙ e in cc)
    | inr later ↦ rest.1 k c later at
  ],
)
lowest_more costs i is (Some a) None e rest = (
  (i, inl refl, e),
  λ k c there at. elim there [
    | inl same ↦ (let n : a ≡ c = one_number a c (sym e ∙ ap (λ (b : Attached). costs b.out.router) same ∙ at) in omega (arith, n))
    | inr later ↦ absurd (let none : Some c ≡ None = sym at ∙ rest k later in cc)
  ],
)
lowest_more costs i is (Some a) (Some b) e rest = by (nat_lt b a) refl
  where
    first : (k : Attached) (c : ℕ) → i ≡ k → costs k.out.router ≡ Some c → a ≡ c
    first k c same at = one_number a c (sym e ∙ ap (λ (d : Attached). costs d.out.router) same ∙ at)

    by : (t : Bool) → nat_lt b a ≡ t → Lowest costs (i ∷ is) (cond t (Some b) (Some a))
    by true less = (
      (let (k, has, at) = rest.0 in (k, inr has, at)),
      λ k c there at. elim there [
        | inl same ↦ (let n : a ≡ c = first k c same at in let lt : b < a = grind (arith, nat_tests) in omega (arith, n, lt))
        | inr later ↦ rest.1 k c later at
      ],
    )
    by false less = (
      (i, inl refl, e),
      λ k c there at. elim there [
        | inl same ↦ (let n : a ≡ c = first k c same at in omega (arith, n))
        | inr later ↦ (let le : b ≤ c = rest.1 k c later at in let not : a ≤ b = grind (arith, nat_tests) in omega (arith, le, not))
      ],
    )

pub lowest : (costs : ℕ → Option ℕ) (is : List Attached) → Lowest costs is (left_from costs is)
lowest costs [] = λ i there. absurd there
lowest costs (i ∷ is) = lowest_more costs i is (costs i.out.router) (left_from costs is) refl (lowest costs is)

left_law : (costs : ℕ → Option ℕ) (t : Transit) (l : ℕ) → left_from costs t.attached ≡ Some l → IsLeftFrom costs t (Some l)
left_law costs t l is =
    let low : Lowest costs t.attached (Some l) = subst (Lowest costs t.attached) is (lowest costs t.attached) in (
      (let (i, has, at) = low.0 in (i, in_contains t.attached i has, at)),
      λ i c has at. low.1 i c (contains_in t.attached i has) at,
    )

pub left_only : (costs : ℕ → Option ℕ) (t : Transit) (l : ℕ) → IsLeftFrom costs t (Some l) → left_from costs t.attached ≡ Some l
left_only costs t l is = by (left_from costs t.attached) (lowest costs t.attached)
  where
    by : (o : Option ℕ) → Lowest costs t.attached o → o ≡ Some l
    by None low = absurd (let (i, has, at) = is.0 in let none : None ≡ Some l = sym (low i (contains_in t.attached i has)) ∙ at in cc)
    by (Some m) low =
        let (i, has, at) = is.0 in
        let (k, has', at') = low.0 in
        let one : m ≤ l = low.1 i l (contains_in t.attached i has) at in
        let two : l ≤ m = is.1 k m (in_contains t.attached k has') at' in
        ap Some (omega (arith, one, two))

-- ---- tests

chosen : {X : Type 0} (b : Bool) (v h : X) → cond b (Some v) None ≡ Some h → (b ≡ true) × (v ≡ h)
chosen true v h e = (refl, cc)
chosen false v h e = absurd (cc e)

tested : (f : ℕ → Bool) (o : Option ℕ) → option_map_or f o false ≡ true → (l : ℕ) × (o ≡ Some l) × (f l ≡ true)
tested f None e = absurd (cc e)
tested f (Some l) e = (l, refl, e)

same_is : (a b : ℕ) → (a == b) ≡ true → a ≡ b
same_is a b e = grind (arith, e)

module _ (area r : ℕ) (costs : ℕ → Option ℕ) (c : ℕ) (h : Hop) where
  -- ---- the hops by listed steps

  of_step : (listed : List Step) → In h (filter_map (hop_by_step area r costs c) listed) → LeadsOn listed area r costs c h
  of_step listed there =
      let (x, has, gives) = (in_filter_map (hop_by_step area r costs c) listed h).0 there in
      let (is, hop) = chosen (leads_by area r costs c x) (hop_of x) h gives in
      let (in_area, more) = both (x.area == area) ((x.out.router == r) && option_map_or (λ left. left + x.cost == c) (costs x.to) false) is in
      let (leaves, test) = both (x.out.router == r) (option_map_or (λ left. left + x.cost == c) (costs x.to) false) more in
      let (left, at, sum) = tested (λ left. left + x.cost == c) (costs x.to) test in record {
        step = x;
        is_step = in_contains listed x has;
        in_area = same_is x.area area in_area;
        leaves = same_is x.out.router r leaves;
        left = left;
        has_left = at;
        sum = same_is (left + x.cost) c sum;
        hop = hop;
      }

  by_step : (listed : List Step) → LeadsOn listed area r costs c h → In h (filter_map (hop_by_step area r costs c) listed)
  by_step listed on =
      let x : Step = on.step in
      let is : leads_by area r costs c x ≡ true =
      and_true (x.area == area) ((x.out.router == r) && option_map_or (λ left. left + x.cost == c) (costs x.to) false) (eq-eqb x.area area on.in_area)
      (and_true (x.out.router == r) (option_map_or (λ left. left + x.cost == c) (costs x.to) false) (eq-eqb x.out.router r on.leaves)
      (ap (λ o. option_map_or (λ left. left + x.cost == c) o false) on.has_left ∙ eq-eqb (on.left + x.cost) c on.sum)) in
      (in_filter_map (hop_by_step area r costs c) listed h).1 (x, contains_in listed x on.is_step, ap (λ b. cond b (Some (hop_of x)) None) is ∙ ap Some on.hop)

  -- ---- the hops over networks

  of_network : (t : Transit) → In h (hops_over r costs c t) → LeadsAcross t r costs c h
  of_network t there = by (left_from costs t.attached) refl there
    where
      by : (o : Option ℕ) → left_from costs t.attached ≡ o → In h (option_map_or (hops_from r costs c t.attached) o []) → LeadsAcross t r costs c h
      by None is there = absurd there
      by (Some left) is there =
          let (i, has_i, further) = of_flat (λ i. map (hop_between i) (filter (arrives_at costs left) t.attached)) (filter (leaves_by r left c) t.attached) h there in
          let (j, has_j, same) = of_map (hop_between i) (filter (arrives_at costs left) t.attached) h further in
          let (in_i, test_i) = of_filter (leaves_by r left c) t.attached i has_i in
          let (in_j, test_j) = of_filter (arrives_at costs left) t.attached j has_j in
          let (leaves, sum) = both (i.out.router == r) (left + i.cost == c) test_i in
          let (l, at, equal) = tested (λ l. l == left) (costs j.out.router) test_j in record {
            left = left;
            is_left = left_law costs t left is;
            source = i;
            has_source = in_contains t.attached i in_i;
            leaves = same_is i.out.router r leaves;
            sum = same_is (left + i.cost) c sum;
            target = j;
            has_target = in_contains t.attached j in_j;
            has_left = at ∙ ap Some (same_is l left equal);
            hop = same;
          }

  by_network : (t : Transit) → LeadsAcross t r costs c h → In h (hops_over r costs c t)
  by_network t a =
      let leaves : leaves_by r a.left c a.source ≡ true =
      and_true (a.source.out.router == r) (a.left + a.source.cost == c) (eq-eqb a.source.out.router r a.leaves) (eq-eqb (a.left + a.source.cost) c a.sum) in
      let arrives : arrives_at costs a.left a.target ≡ true = ap (λ o. option_map_or (λ l. l == a.left) o false) a.has_left ∙ eq-eqb a.left a.left refl in
      let hop : In h (map (hop_between a.source) (filter (arrives_at costs a.left) t.attached)) =
      subst (λ g. In g (map (hop_between a.source) (filter (arrives_at costs a.left) t.attached))) a.hop
      (in_map (hop_between a.source) (filter (arrives_at costs a.left) t.attached) a.target (in_filter (arrives_at costs a.left) t.attached a.target (contains_in t.attached a.target a.has_target) arrives)) in
      subst (λ o. In h (option_map_or (hops_from r costs c t.attached) o [])) (sym (left_only costs t a.left a.is_left))
      (in_flat (λ i. map (hop_between i) (filter (arrives_at costs a.left) t.attached)) (filter (leaves_by r a.left c) t.attached) a.source h
      (in_filter (leaves_by r a.left c) t.attached a.source (contains_in t.attached a.source a.has_source) leaves) hop)

  -- ---- both

  pub made : (listed : List Step) (transits : List Transit) → Contains (hops_by listed transits area r costs c) h ↔ LeadsOnBy listed transits area r costs c h
  made listed transits =
      let steps : List Hop = filter_map (hop_by_step area r costs c) listed in
      let nets : List Hop = flat_map (hops_over r costs c) (transits_in area transits) in (
        λ has. elim (in_either steps nets h ((in_order_in hop_cmp same_by_hop_cmp (steps ++ nets) h).0 (contains_in (in_order hop_cmp (steps ++ nets)) h has))) [
          | inl front ↦ inl (of_step listed front)
          | inr back ↦ (let (t, among, is) = of_flat (hops_over r costs c) (transits_in area transits) h back in
              let (there, equal) = of_filter (λ (u : Transit). u.area == area) transits t among in
              inr (t, in_contains transits t there, same_is t.area area equal, of_network t is))
        ],
        λ leads. in_contains (in_order hop_cmp (steps ++ nets)) h ((in_order_in hop_cmp same_by_hop_cmp (steps ++ nets) h).1 (elim leads [
          | inl on ↦ in_front steps nets h (by_step listed on)
          | inr (t, has, in_area, a) ↦ in_back steps nets h (in_flat (hops_over r costs c) (transits_in area transits) t h
              (in_filter (λ (u : Transit). u.area == area) transits t (contains_in transits t has) (eq-eqb t.area area in_area)) (by_network t a))
        ])),
      )

pub walks_are : WalksAreThose
walks_are area steps listed transits split dear s costs are r = by (costs r) refl
  where
    by : (o : Option ℕ) → costs r ≡ o → IsPathTo steps r area s (option_map (λ c. record { cost = c; hops = hops_by listed transits area r costs c }) o)
    by None is = none_towards steps area s costs are r is
    by (Some c) is = towards steps area s costs are r (record { cost = c; hops = hops_by listed transits area r costs c }) is
        (λ h. (
          λ has. (hops_are area steps listed transits split dear s costs are r c is h).1 ((made area r costs c h listed transits).0 has),
          λ on. (made area r costs c h listed transits).1 ((hops_are area steps listed transits split dear s costs are r c is h).0 on),
        ))
        (in_order-sorted hop_cmp hop_cmp_total (filter_map (hop_by_step area r costs c) listed ++ flat_map (hops_over r costs c) (transits_in area transits)))
