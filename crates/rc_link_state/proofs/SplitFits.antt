-- Listed steps and networks are of the routers of the interfaces, and cost what these do.
use Rattle.std.proofs.Common.{subst, ℕ, ◌<◌, ◌≤◌, List, Contains}
use Rattle.std.specs.Prelude.{All}
use Rattle.rc_topology.specs.Topology.{Topology}
use Rattle.rc_ospf_interfaces.specs.declared.interface.OspfInterface.{OspfInterface}
use Rattle.rc_link_state.specs.Graph.{AreOf}
use Rattle.rc_link_state.specs.Tables.{IsFit}
use Rattle.rc_link_state.specs.Transits.{CostSomething}
use Rattle.rc_link_state.specs.Whole.{AreAttached, AreSplit, IsStepBetween}
use Rattle.rc_link_state.specs.declared.step.Step.{Step}
use Rattle.rc_link_state.specs.declared.transit.Attached.{Attached}
use Rattle.rc_link_state.specs.declared.transit.Transit.{Transit}

module _ (links : Topology) (interfaces : List OspfInterface) (listed : List Step) (transits : List Transit) (split : AreSplit links interfaces listed transits) (n : ℕ) (fit : All (IsFit n) interfaces) where
  fit_one : (i : OspfInterface) → Contains interfaces i → IsFit n i
  fit_one i (k, lt, is) = subst (IsFit n) is (fit k i lt)

  step_leaves : (x : Step) → Contains listed x → x.out.router < n
  step_leaves x has = let b : IsStepBetween links interfaces x = split.each_listed x has in
      subst (λ (y : Step). y.out.router < n) b.step (fit_one b.source b.has_source).router

  step_arrives : (x : Step) → Contains listed x → x.to < n
  step_arrives x has = let b : IsStepBetween links interfaces x = split.each_listed x has in
      subst (λ (y : Step). y.to < n) b.step (fit_one b.target b.has_target).router

  attached_is : (t : Transit) (i : Attached) → Contains transits t → Contains t.attached i → AreAttached links interfaces t i i
  attached_is t i has has_i = split.each_network t i i has has_i has_i

  -- they are of the first n routers
  pub split_of : AreOf n listed transits
  split_of = record {
    leave = step_leaves;
    arrive = step_arrives;
    attach = λ t i has has_i. (let a : AreAttached links interfaces t i i = attached_is t i has has_i in subst (λ (b : Attached). b.out.router < n) a.first (fit_one a.source a.has_source).router);
  }

  -- a listed step costs from 1 to 65,535
  pub listed_cost : (x : Step) → Contains listed x → (1 ≤ x.cost) × (x.cost ≤ 65535)
  listed_cost x has =
      let b : IsStepBetween links interfaces x = split.each_listed x has in
      let f : IsFit n b.source = fit_one b.source b.has_source in (subst (λ (y : Step). 1 ≤ y.cost) b.step f.least, subst (λ (y : Step). y.cost ≤ 65535) b.step f.most)

  -- and so does leaving by an attached interface
  pub attached_cost : (t : Transit) (i : Attached) → Contains transits t → Contains t.attached i → (1 ≤ i.cost) × (i.cost ≤ 65535)
  attached_cost t i has has_i =
      let a : AreAttached links interfaces t i i = attached_is t i has has_i in
      let f : IsFit n a.source = fit_one a.source a.has_source in (subst (λ (b : Attached). 1 ≤ b.cost) a.first f.least, subst (λ (b : Attached). b.cost ≤ 65535) a.first f.most)

  pub split_costs_something : CostSomething transits
  split_costs_something t i has has_i = (attached_cost t i has has_i).0
