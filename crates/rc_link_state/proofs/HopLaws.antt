-- The hops by transit networks are those of the steps that lead on.
use Rattle.std.proofs.Common.{refl, ◌≡◌, ap, sym, ◌∙◌, subst, ℕ, ◌+◌, ◌≤◌, inl, inr, List, ◌∷◌, Option, Some, Contains, arith}
use Rattle.std.proofs.Math.Decide.{ℕ_discrete}
use Rattle.rc_route.specs.declared.route.Hop.{Hop}
use Rattle.rc_link_state.specs.Adjacency.{hop_of}
use Rattle.rc_link_state.specs.Towards.{IsCostFrom, AreCostsTo, LeadsOn}
use Rattle.rc_link_state.specs.Walks.{IsLeastWalk, walk_cost}
use Rattle.rc_link_state.specs.declared.step.Step.{Step}
use Rattle.rc_link_state.specs.declared.transit.Attached.{Attached}
use Rattle.rc_link_state.specs.declared.transit.Transit.{Transit}
use Rattle.rc_link_state.specs.Laws.{HopsAreThose}
use Rattle.rc_link_state.specs.Transits.{AreStepsBy, CostSomething, IsAcross, LeadsAcross, LeadsOnBy, across}

module _ (area : ℕ) (steps listed : List Step) (transits : List Transit) (by : AreStepsBy listed transits steps) (dear : CostSomething transits) (s : ℕ) (costs : ℕ → Option ℕ) (are : AreCostsTo steps area s costs)
    (r c : ℕ) (is : costs r ≡ Some c) (h : Hop) where
  cost_is : (k d : ℕ) → costs k ≡ Some d → (walk : List Step) × IsLeastWalk steps area k s walk × (walk_cost walk ≡ d)
  cost_is k d at = subst (IsCostFrom steps area s k) at (are k)

  one_cost : (k d : ℕ) → r ≡ k → costs k ≡ Some d → d ≡ c
  one_cost k d same at = let some : Some d ≡ Some c = sym at ∙ sym (ap costs same) ∙ is in cc

  step_there : (t : Transit) → Contains transits t → (i j : Attached) → Contains t.attached i → Contains t.attached j → ¬ (i.out.router ≡ j.out.router) → Contains steps (across t.area i j)
  step_there t has i j has_i has_j apart =
      (by (across t.area i j)).1 (inr (t, has, record { source = i; target = j; has_source = has_i; has_target = has_j; apart = apart; step = refl }))

  over_network : (on : LeadsOn steps area r costs c h) (t : Transit) → Contains transits t → IsAcross t on.step → (t.area ≡ area) × LeadsAcross t r costs c h
  over_network on t has a =
      let i : Attached = a.source in
      let j : Attached = a.target in
      let in_area : t.area ≡ area = ap (λ (x : Step). x.area) a.step ∙ on.in_area in
      let leaves : i.out.router ≡ r = ap (λ (x : Step). x.out.router) a.step ∙ on.leaves in
      let first : i.cost ≡ on.step.cost = ap (λ (x : Step). x.cost) a.step in
      let to : j.out.router ≡ on.step.to = ap (λ (x : Step). x.to) a.step in
      let has_left : costs j.out.router ≡ Some on.left = ap costs to ∙ on.has_left in
      let total : on.left + on.step.cost ≡ c = on.sum in
      let sum : on.left + i.cost ≡ c = omega (arith, total, first) in (
        in_area,
        record {
          left = on.left;
          is_left = ((j, a.has_target, has_left), λ k d has_k at. least k d has_k at i a.has_source in_area leaves sum (ℕ_discrete i.out.router k.out.router));
          source = i;
          has_source = a.has_source;
          leaves = leaves;
          sum = sum;
          target = j;
          has_target = a.has_target;
          has_left = has_left;
          hop = ap hop_of a.step ∙ on.hop;
        },
      )
    where
      least : (k : Attached) (d : ℕ) → Contains t.attached k → costs k.out.router ≡ Some d → (i : Attached) → Contains t.attached i → t.area ≡ area → i.out.router ≡ r → on.left + i.cost ≡ c →
          Dec (i.out.router ≡ k.out.router) → on.left ≤ d
      least k d has_k at i has_i in_area leaves sum (yes same) = let e : d ≡ c = one_cost k.out.router d (sym leaves ∙ same) at in omega (arith, e, sum)
      least k d has_k at i has_i in_area leaves sum (no apart) =
          let (w, best, total) = cost_is k.out.router d at in
          let (v, best', total') = cost_is r c is in
          let le : walk_cost v ≤ i.cost + walk_cost w = best'.least (across t.area i k ∷ w) (step_there t has i k has_i has_k apart, in_area, leaves, best.is_walk) in
          omega (arith, le, total, total', sum)

  to_networks : LeadsOn steps area r costs c h → LeadsOnBy listed transits area r costs c h
  to_networks on = elim ((by on.step).0 on.is_step) [
    | inl there ↦ inl (record {
      step = on.step;
      is_step = there;
      in_area = on.in_area;
      leaves = on.leaves;
      left = on.left;
      has_left = on.has_left;
      sum = on.sum;
      hop = on.hop;
    })
    | inr (t, has, a) ↦ (let (in_area, leads) = over_network on t has a in inr (t, has, in_area, leads))
  ]

  from_network : (t : Transit) → Contains transits t → t.area ≡ area → (l : LeadsAcross t r costs c h) → Dec (l.source.out.router ≡ l.target.out.router) → LeadsOn steps area r costs c h
  from_network t has in_area l (yes same) = absurd
      (let e : l.left ≡ c = one_cost l.target.out.router l.left (sym l.leaves ∙ same) l.has_left in
      let sum : l.left + l.source.cost ≡ c = l.sum in
      let some : 1 ≤ l.source.cost = dear t l.source has l.has_source in omega (arith, e, sum, some))
  from_network t has in_area l (no apart) = record {
    step = across t.area l.source l.target;
    is_step = step_there t has l.source l.target l.has_source l.has_target apart;
    in_area = in_area;
    leaves = l.leaves;
    left = l.left;
    has_left = l.has_left;
    sum = l.sum;
    hop = l.hop;
  }

  from_networks : LeadsOnBy listed transits area r costs c h → LeadsOn steps area r costs c h
  from_networks (inl on) = record {
    step = on.step;
    is_step = (by on.step).1 (inl on.is_step);
    in_area = on.in_area;
    leaves = on.leaves;
    left = on.left;
    has_left = on.has_left;
    sum = on.sum;
    hop = on.hop;
  }
  from_networks (inr (t, has, in_area, l)) = from_network t has in_area l (ℕ_discrete l.source.out.router l.target.out.router)

pub hops_are : HopsAreThose
hops_are area steps listed transits by dear s costs are r c is h =
    (to_networks area steps listed transits by dear s costs are r c is h, from_networks area steps listed transits by dear s costs are r c is h)
