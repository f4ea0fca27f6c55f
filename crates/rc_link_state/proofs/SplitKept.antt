-- The steps and networks of a split, as areas are made of them.
use Rattle.std.proofs.Common.{◌≡◌, sym, subst, ℕ, List}
use Rattle.std.specs.Prelude.{All}
use Rattle.rc_topology.specs.Topology.{Topology}
use Rattle.rc_ospf_interfaces.specs.declared.interface.OspfInterface.{OspfInterface}
use Rattle.rc_link_state.specs.declared.step.Step.{Step}
use Rattle.rc_link_state.specs.declared.transit.Transit.{Transit}
use Rattle.rc_link_state.specs.Graph.{CostLittle}
use Rattle.rc_link_state.specs.Tables.{IsFit}
use Rattle.rc_link_state.specs.Whole.{AreSplit}
use Rattle.rc_link_state.proofs.SplitFits.{attached_cost, listed_cost}

pub split_as : (links : Topology) (interfaces : List OspfInterface) (listed read : List Step) (transits lent : List Transit) → read ≡ listed → lent ≡ transits →
    AreSplit links interfaces listed transits → AreSplit links interfaces read lent
split_as links interfaces listed read transits lent is same split = subst (λ l. AreSplit links interfaces l lent) (sym is) (subst (AreSplit links interfaces listed) (sym same) split)

pub split_little : (links : Topology) (interfaces : List OspfInterface) (listed : List Step) (transits : List Transit) → AreSplit links interfaces listed transits → (n : ℕ) → All (IsFit n) interfaces →
    CostLittle listed transits
split_little links interfaces listed transits split n fit = record {
  step = λ x has. (listed_cost links interfaces listed transits split n fit x has).1;
  interface = λ t i has has_i. (attached_cost links interfaces listed transits split n fit t i has has_i).1;
}
