-- The first hops of the least walks to a router are those of the steps that lead on at the least cost.
use Rattle.std.proofs.Common.{refl, ◌≡◌, ap, sym, ◌∙◌, subst, ℕ, ◌+◌, ◌≤◌, ◌↔◌, inl, inr, List, [], ◌∷◌, Option, Some, None, Contains, arith}
use Rattle.std.specs.List.{filter_map, cons_option}
use Rattle.std.specs.List.Sorted.{IsStrictlySortedBy}
use Rattle.rc_route.specs.Hops.{hop_cmp}
use Rattle.rc_route.specs.declared.route.Hop.{Hop}
use Rattle.rc_link_state.specs.Adjacency.{hop_of}
use Rattle.rc_link_state.specs.Towards.{IsCostFrom, AreCostsTo, LeadsOn}
use Rattle.rc_link_state.specs.Walks.{IsWalk, walk_cost, first_hop, IsLeastWalk, LeastWalks, AreLeastWalks}
use Rattle.rc_link_state.specs.declared.step.Step.{Step}
use Rattle.rc_link_state.proofs.Members.{In}

-- what a test finds in a list
pub in_filter_map : {X Y : Type 0} (f : X → Option Y) (xs : List X) (y : Y) → In y (filter_map f xs) ↔ ((x : X) × In x xs × (f x ≡ Some y))
in_filter_map f [] y = (λ there. absurd there, λ found. absurd found.1)
in_filter_map {X} {Y} f (x ∷ xs) y = by (f x) refl (in_filter_map f xs y)
  where
    by : (o : Option Y) → f x ≡ o → (In y (filter_map f xs) ↔ ((z : X) × In z xs × (f z ≡ Some y)))
        → In y (cons_option o (filter_map f xs)) ↔ ((z : X) × In z (x ∷ xs) × (f z ≡ Some y))
    by None is rest = (
      λ there. (let (z, later, gives) = rest.0 there in (z, inr later, gives)),
      λ found. elim found.1 [
        | inl same ↦ absurd (let some : f x ≡ Some y = ap f same ∙ found.2 in cc)
        | inr later ↦ rest.1 (found.0, later, found.2)
      ],
    )
    by (Some z) is rest = (
      λ there. elim there [
        | inl same ↦ (x, inl refl, is ∙ ap Some same)
        | inr later ↦ (let (w, further, gives) = rest.0 later in (w, inr further, gives))
      ],
      λ found. elim found.1 [
        | inl same ↦ inl (let some : Some z ≡ Some y = sym is ∙ ap f same ∙ found.2 in cc)
        | inr later ↦ inr (rest.1 (found.0, later, found.2))
      ],
    )

module _ (steps : List Step) (area s : ℕ) (costs : ℕ → Option ℕ) (are : AreCostsTo steps area s costs) where
  cost_is : (r c : ℕ) → costs r ≡ Some c → (walk : List Step) × IsLeastWalk steps area r s walk × (walk_cost walk ≡ c)
  cost_is r c is = subst (IsCostFrom steps area s r) is (are r)

  -- where a walk leads on there is a cost, and it is no more than the walk's
  some_cost : (r : ℕ) (walk : List Step) → IsWalk steps area r walk s → (c : ℕ) × (costs r ≡ Some c) × (c ≤ walk_cost walk)
  some_cost r walk is = by (costs r) refl (are r)
    where
      by : (o : Option ℕ) → costs r ≡ o → IsCostFrom steps area s r o → (c : ℕ) × (costs r ≡ Some c) × (c ≤ walk_cost walk)
      by None at none = absurd (none walk is)
      by (Some c) at found = (let (w, least, total) = found in let le : walk_cost w ≤ walk_cost walk = least.least walk is in (c, at, omega arith))

  HasFirst : ℕ → Hop → Type 0
  HasFirst r h = (walk : List Step) × IsLeastWalk steps area r s walk × (first_hop walk ≡ Some h)

  begins : (r c : ℕ) → costs r ≡ Some c → (h : Hop) → LeadsOn steps area r costs c h → HasFirst r h
  unfolding HasFirst
  begins r c is h on =
      let (w, least, total) = cost_is on.step.to on.left on.has_left in
      let (v, least', total') = cost_is r c is in (
        on.step ∷ w,
        record {
          is_walk = (on.is_step, on.in_area, on.leaves, least.is_walk);
          least = λ other there. (let le : walk_cost v ≤ walk_cost other = least'.least other there in let sum : on.left + on.step.cost ≡ c = on.sum in omega arith);
        },
        ap Some on.hop,
      )

  leads_on : (r c : ℕ) → costs r ≡ Some c → (h : Hop) → HasFirst r h → LeadsOn steps area r costs c h
  unfolding HasFirst
  leads_on r c is h (walk, least, first) = by walk least first
    where
      by : (walk : List Step) → IsLeastWalk steps area r s walk → first_hop walk ≡ Some h → LeadsOn steps area r costs c h
      by [] least first = absurd (cc)
      by (x ∷ walk) least first =
          let there = least.is_walk in
          let (d, has, le) = some_cost x.to walk there.3 in
          let (w, best, total) = cost_is x.to d has in
          let (v, least', total') = cost_is r c is in
          let one : x.cost + walk_cost walk ≤ walk_cost v = least.least v least'.is_walk in
          let two : walk_cost v ≤ x.cost + walk_cost w = least'.least (x ∷ w) (there.0, there.1, there.2, best.is_walk) in
          record {
            step = x;
            is_step = there.0;
            in_area = there.1;
            leaves = there.2;
            left = d;
            has_left = has;
            sum = omega arith;
            hop = let some : Some (hop_of x) ≡ Some h = first in cc;
          }

  pub towards : (r : ℕ) (e : LeastWalks) → costs r ≡ Some e.cost → ((h : Hop) → Contains e.hops h ↔ LeadsOn steps area r costs e.cost h) → IsStrictlySortedBy hop_cmp e.hops →
      AreLeastWalks steps area r s e
  unfolding HasFirst
  towards r e is hops in_order = record {
    cost = cost_is r e.cost is;
    hops = λ h. (λ there. begins r e.cost is h ((hops h).0 there), λ first. (hops h).1 (leads_on r e.cost is h first));
    in_order = in_order;
  }

  pub none_towards : (r : ℕ) → costs r ≡ None → (walk : List Step) → IsWalk steps area r walk s → ⊥
  none_towards r is = subst (IsCostFrom steps area s r) is (are r)
