-- The laws of the graph, for the steps and networks of one area among all.
use Rattle.std.proofs.Common.{◌≡◌, ap, sym, ◌∙◌, ℕ, inl, inr, List, arith, eq-eqb}
use Rattle.std.specs.Prelude.{◌==◌}
use Rattle.rc_link_state.specs.declared.step.Step.{Step}
use Rattle.rc_link_state.specs.declared.transit.Transit.{Transit}
use Rattle.rc_link_state.specs.Graph.{AreOf, steps_in, transits_in}
use Rattle.rc_link_state.specs.Laws.{LeastCostsAreThose, CostsBehindAreThose}
use Rattle.rc_link_state.specs.Transits.{AreStepsBy, across}
use Rattle.rc_link_state.proofs.GraphLaws.{AreOfArea, costs_are, left_is}
use Rattle.rc_link_state.proofs.Members.{contains_in, in_contains, in_filter, of_filter}

of_area : (n area : ℕ) (steps listed : List Step) (transits : List Transit) → AreOf n listed transits → AreStepsBy listed transits steps →
    AreOfArea n area steps (steps_in area listed) (transits_in area transits)
of_area n area steps listed transits fit by = record {
  listed = λ x has. (let (there, is) = of_filter (λ (y : Step). y.area == area) listed x has in ((by x).1 (inl (in_contains listed x there)), grind (arith, is)));
  over = λ t has i j has_i has_j apart.
      (let (there, is) = of_filter (λ (u : Transit). u.area == area) transits t has in
      let same : t.area ≡ area = grind (arith, is) in
      (by (across area i j)).1 (inr (
        t,
        in_contains transits t there,
        record {
          source = i;
          target = j;
          has_source = in_contains t.attached i has_i;
          has_target = in_contains t.attached j has_j;
          apart = apart;
          step = ap (λ m. across m i j) same;
        },
      )));
  only = λ x has in_area. elim ((by x).0 has) [
    | inl there ↦ inl (in_filter (λ (y : Step). y.area == area) listed x (contains_in listed x there) (eq-eqb x.area area in_area))
    | inr (t, there, a) ↦ (let same : t.area ≡ area = ap (λ (y : Step). y.area) a.step ∙ in_area in inr (
      t,
      in_filter (λ (u : Transit). u.area == area) transits t (contains_in transits t there) (eq-eqb t.area area same),
      a.source,
      a.target,
      contains_in t.attached a.source a.has_source,
      contains_in t.attached a.target a.has_target,
      ap (λ m. across m a.source a.target) (sym same) ∙ a.step,
    ))
  ];
  leave = λ x has. fit.leave x (in_contains listed x (of_filter (λ (y : Step). y.area == area) listed x has).0);
  arrive = λ x has. fit.arrive x (in_contains listed x (of_filter (λ (y : Step). y.area == area) listed x has).0);
  attach = λ t has i has_i. fit.attach t i (in_contains transits t (of_filter (λ (u : Transit). u.area == area) transits t has).0) (in_contains t.attached i has_i);
}

pub least_costs : LeastCostsAreThose
least_costs n area steps listed transits fit by r s lt_r lt_s cost is =
    costs_are n area steps (steps_in area listed) (transits_in area transits) (of_area n area steps listed transits fit by) s lt_s r lt_r cost is

pub costs_behind : CostsBehindAreThose
costs_behind n area steps listed transits fit by s costs lt known k t at left is =
    left_is n area steps (steps_in area listed) (transits_in area transits) (of_area n area steps listed transits fit by) s lt costs known k t at left is
