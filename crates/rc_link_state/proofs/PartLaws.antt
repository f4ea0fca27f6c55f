-- Steps that are split part by part, as prefix by prefix, are split.
use Rattle.std.proofs.Common.{◌≡◌, ◌⊎◌, inl, inr, true, List, Contains}
use Rattle.std.specs.List.{flat_map}
use Rattle.rc_topology.specs.Topology.{Topology}
use Rattle.rc_ospf_interfaces.specs.declared.interface.OspfInterface.{OspfInterface}
use Rattle.rc_link_state.specs.Adjacency.{is_adjacent, step_over}
use Rattle.rc_link_state.specs.declared.step.Step.{Step}
use Rattle.rc_link_state.specs.Whole.{IsStepBetween, HasBoth, AreAttached, AreSplit}
use Rattle.rc_link_state.specs.declared.transit.Attached.{Attached}
use Rattle.rc_link_state.specs.declared.transit.Transit.{Transit}
use Rattle.rc_link_state.proofs.Members.{contains_in, in_contains}
use Rattle.rc_link_state.proofs.WholeLaws.{in_flat, of_flat}

-- some interfaces with the steps and networks between them
pub record Part : Type 0 where
  pub members : List OspfInterface
  pub listed : List Step
  pub transits : List Transit

abbrev pub listed_of : Part → List Step
listed_of p = p.listed

abbrev pub transits_of : Part → List Transit
transits_of p = p.transits

pub record HasPart (parts : List Part) (i j : OspfInterface) : Type 0 where
  pub part : Part
  pub has : Contains parts part
  pub first : Contains part.members i
  pub second : Contains part.members j

-- each part is split, and has what is adjacent
pub record ArePartsOf (links : Topology) (interfaces : List OspfInterface) (parts : List Part) : Type 0 where
  pub split : (p : Part) → Contains parts p → AreSplit links p.members p.listed p.transits
  pub within : (p : Part) (i : OspfInterface) → Contains parts p → Contains p.members i → Contains interfaces i
  pub together : (i j : OspfInterface) → Contains interfaces i → Contains interfaces j → is_adjacent links i j ≡ true → HasPart parts i j

module _ (links : Topology) (interfaces : List OspfInterface) (parts : List Part) (are : ArePartsOf links interfaces parts) where
  each_listed : (x : Step) → Contains (flat_map listed_of parts) x → IsStepBetween links interfaces x
  each_listed x has =
      let (p, has_p, there) = of_flat listed_of parts x (contains_in (flat_map listed_of parts) x has) in
      let part : Contains parts p = in_contains parts p has_p in
      let b : IsStepBetween links p.members x = (are.split p part).each_listed x (in_contains p.listed x there) in record {
        source = b.source;
        target = b.target;
        has_source = are.within p b.source part b.has_source;
        has_target = are.within p b.target part b.has_target;
        adjacent = b.adjacent;
        step = b.step;
      }

  each_network : (t : Transit) (a b : Attached) → Contains (flat_map transits_of parts) t → Contains t.attached a → Contains t.attached b → AreAttached links interfaces t a b
  each_network t a b has has_a has_b =
      let (p, has_p, there) = of_flat transits_of parts t (contains_in (flat_map transits_of parts) t has) in
      let part : Contains parts p = in_contains parts p has_p in
      let o : AreAttached links p.members t a b = (are.split p part).each_network t a b (in_contains p.transits t there) has_a has_b in record {
        source = o.source;
        target = o.target;
        has_source = are.within p o.source part o.has_source;
        has_target = are.within p o.target part o.has_target;
        together = o.together;
        area = o.area;
        first = o.first;
        second = o.second;
      }

  each_step : (i j : OspfInterface) → Contains interfaces i → Contains interfaces j → is_adjacent links i j ≡ true → Contains (flat_map listed_of parts) (step_over i j) ⊎ HasBoth (flat_map transits_of parts) i j
  each_step i j has_i has_j is =
      let h : HasPart parts i j = are.together i j has_i has_j is in
      elim ((are.split h.part h.has).each_step i j h.first h.second is) [
        | inl there ↦ inl (in_contains (flat_map listed_of parts) (step_over i j) (in_flat listed_of parts h.part (step_over i j) (contains_in parts h.part h.has) (contains_in h.part.listed (step_over i j) there)))
        | inr both ↦ inr (record {
          network = both.network;
          has = in_contains (flat_map transits_of parts) both.network (in_flat transits_of parts h.part both.network (contains_in parts h.part h.has) (contains_in h.part.transits both.network both.has));
          area = both.area;
          source = both.source;
          target = both.target;
        })
      ]

pub parts_split : (links : Topology) (interfaces : List OspfInterface) (parts : List Part) → ArePartsOf links interfaces parts →
    AreSplit links interfaces (flat_map listed_of parts) (flat_map transits_of parts)
parts_split links interfaces parts are = record {
  each_listed = each_listed links interfaces parts are;
  each_network = each_network links interfaces parts are;
  each_step = each_step links interfaces parts are;
}
