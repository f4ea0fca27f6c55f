-- The network of the whole ones of a segment, with the steps that are listed, makes up all steps between its interfaces.
use Rattle.std.proofs.Common.{refl, ◌≡◌, ap, sym, ◌∙◌, subst, ◌⊎◌, inl, inr, Bool, true, false, not, cond, ◌&&◌, List, [], ◌∷◌, map, filter, Contains}
use Rattle.rc_topology.specs.Topology.{Topology}
use Rattle.rc_ospf_interfaces.specs.declared.interface.OspfInterface.{OspfInterface}
use Rattle.rc_link_state.specs.Adjacency.{is_adjacent, step_over}
use Rattle.rc_link_state.specs.Grouping.{segment_of}
use Rattle.rc_link_state.specs.Split.{has_network, listed_in, network_of, networks_in, rest_of, steps_from, whole_of}
use Rattle.rc_link_state.specs.Whole.{attached_of, is_whole, IsStepBetween, HasBoth, AreAttached, AreSplit}
use Rattle.rc_link_state.specs.declared.segment.Segment.{Segment}
use Rattle.rc_link_state.specs.declared.step.Step.{Step}
use Rattle.rc_link_state.specs.declared.transit.Attached.{Attached}
use Rattle.rc_link_state.specs.declared.transit.Transit.{Transit}
use Rattle.rc_link_state.proofs.Members.{In, contains_in, in_contains, in_map, of_map, in_filter, of_filter}
use Rattle.rc_link_state.proofs.SegmentLaws.{segments_agree}
use Rattle.rc_link_state.proofs.WholeLaws.{in_flat, of_flat}

module _ (links : Topology) (s : Segment) (members : List OspfInterface) (of : (i : OspfInterface) → In i members → segment_of i ≡ s) where
  abbrev listed : List Step
  listed = listed_in links members

  abbrev networks : List Transit
  networks = networks_in links s.area members

  -- those to which the steps from an interface are listed
  abbrev targets : Bool → OspfInterface → List OspfInterface
  targets has i = cond (has && is_whole links i) (rest_of links members) members

  of_targets : (b : Bool) (j : OspfInterface) → In j (cond b (rest_of links members) members) → In j members
  of_targets true j there = (of_filter (λ k. not (is_whole links k)) members j there).0
  of_targets false j there = there

  each_listed : (x : Step) → Contains listed x → IsStepBetween links members x
  each_listed x has =
      let (i, has_i, there) = of_flat (steps_from links (has_network links members) members (rest_of links members)) members x (contains_in listed x has) in
      let (j, among, same) = of_map (step_over i) (filter (is_adjacent links i) (targets (has_network links members) i)) x there in
      let (to, adjacent) = of_filter (is_adjacent links i) (targets (has_network links members) i) j among in record {
        source = i;
        target = j;
        has_source = in_contains members i has_i;
        has_target = in_contains members j (of_targets (has_network links members && is_whole links i) j to);
        adjacent = adjacent;
        step = same;
      }

  whole_in : (a : Attached) → In a (map attached_of (whole_of links members)) → (i : OspfInterface) × In i members × (is_whole links i ≡ true) × (attached_of i ≡ a)
  whole_in a has =
      let (i, among, same) = of_map attached_of (whole_of links members) a has in
      let (has_i, whole) = of_filter (is_whole links) members i among in (i, has_i, whole, same)

  of_network : (a b : Attached) → In a (map attached_of (whole_of links members)) → In b (map attached_of (whole_of links members)) → AreAttached links members (network_of links s.area members) a b
  of_network a b has_a has_b =
      let (i, has_i, whole_i, same_a) = whole_in a has_a in
      let (j, has_j, whole_j, same_b) = whole_in b has_b in record {
        source = i;
        target = j;
        has_source = in_contains members i has_i;
        has_target = in_contains members j has_j;
        together = record { first = whole_i; second = whole_j; alike = segments_agree i j (of i has_i ∙ sym (of j has_j)) };
        area = sym (ap (λ (k : Segment). k.area) (of i has_i));
        first = same_a;
        second = same_b;
      }

  one_network : (b : Bool) (t : Transit) → In t (cond b (network_of links s.area members ∷ []) []) → network_of links s.area members ≡ t
  one_network true t (inl same) = same
  one_network true t (inr none) = absurd none
  one_network false t none = absurd none

  each_network : (t : Transit) (a b : Attached) → Contains networks t → Contains t.attached a → Contains t.attached b → AreAttached links members t a b
  each_network t a b has has_a has_b =
      let same : network_of links s.area members ≡ t = one_network (has_network links members) t (contains_in networks t has) in
      subst (λ u. AreAttached links members u a b) same
      (of_network a b (subst (λ (u : Transit). In a u.attached) (sym same) (contains_in t.attached a has_a)) (subst (λ (u : Transit). In b u.attached) (sym same) (contains_in t.attached b has_b)))

  on_network : (i j : OspfInterface) → In i members → In j members → has_network links members ≡ true → is_whole links i ≡ true → is_whole links j ≡ true → HasBoth networks i j
  on_network i j has_i has_j has whole_i whole_j = record {
    network = network_of links s.area members;
    has = in_contains networks (network_of links s.area members) (subst (λ b. In (network_of links s.area members) (cond b (network_of links s.area members ∷ []) [])) (sym has) (inl refl));
    area = sym (ap (λ (k : Segment). k.area) (of i has_i));
    source = in_contains (map attached_of (whole_of links members)) (attached_of i) (in_map attached_of (whole_of links members) i (in_filter (is_whole links) members i has_i whole_i));
    target = in_contains (map attached_of (whole_of links members)) (attached_of j) (in_map attached_of (whole_of links members) j (in_filter (is_whole links) members j has_j whole_j));
  }

  is_listed : (i j : OspfInterface) → In i members → In j (targets (has_network links members) i) → is_adjacent links i j ≡ true → Contains listed (step_over i j)
  is_listed i j has_i to is =
      in_contains listed (step_over i j)
      (in_flat (steps_from links (has_network links members) members (rest_of links members)) members i (step_over i j) has_i
      (in_map (step_over i) (filter (is_adjacent links i) (targets (has_network links members) i)) j (in_filter (is_adjacent links i) (targets (has_network links members) i) j to is)))

  each_step : (i j : OspfInterface) → Contains members i → Contains members j → is_adjacent links i j ≡ true → Contains listed (step_over i j) ⊎ HasBoth networks i j
  each_step i j has_i has_j is = by (has_network links members) (is_whole links i) (is_whole links j) refl refl refl
    where
      in_i : In i members
      in_i = contains_in members i has_i

      in_j : In j members
      in_j = contains_in members j has_j

      to : (b c : Bool) → has_network links members ≡ b → is_whole links i ≡ c → In j (cond (b && c) (rest_of links members) members) → Contains listed (step_over i j)
      to b c has whole there = is_listed i j in_i (subst (λ x. In j (cond (x && is_whole links i) (rest_of links members) members)) (sym has) (subst (λ x. In j (cond (b && x) (rest_of links members) members)) (sym whole) there)) is

      by : (b c d : Bool) → has_network links members ≡ b → is_whole links i ≡ c → is_whole links j ≡ d → Contains listed (step_over i j) ⊎ HasBoth networks i j
      by false c d has whole_i whole_j = inl (to false c has whole_i in_j)
      by true false d has whole_i whole_j = inl (to true false has whole_i in_j)
      by true true false has whole_i whole_j = inl (to true true has whole_i (in_filter (λ k. not (is_whole links k)) members j in_j (ap not whole_j)))
      by true true true has whole_i whole_j = inr (on_network i j in_i in_j has whole_i whole_j)

pub segment_split : (links : Topology) (s : Segment) (members : List OspfInterface) → ((i : OspfInterface) → In i members → segment_of i ≡ s) →
    AreSplit links members (listed_in links members) (networks_in links s.area members)
segment_split links s members of = record {
  each_listed = each_listed links s members of;
  each_network = each_network links s members of;
  each_step = each_step links s members of;
}
