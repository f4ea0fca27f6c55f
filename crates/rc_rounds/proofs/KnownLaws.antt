-- Where no router reads what any knows, the first round makes the fixed point.
use Rattle.std.proofs.Common.{refl, ◌≡◌, ◌≢◌, ap, sym, ◌∙◌, subst, ℕ, ◌≤◌, List, All, arith}
use Rattle.std.specs.List.Sorted.{IsStrictlySortedBy}
use Rattle.rc_base.specs.Prefix.{prefix_cmp}
use Rattle.rc_config.specs.declared.network.Network.{Network}
use Rattle.rc_ospf.specs.Internal.{IsInternalAt, internal_at}
use Rattle.rc_ospf.specs.declared.model.Internal.{Internal}
use Rattle.rc_rib.proofs.AloneLaws.{state_of_any}
use Rattle.rc_rib.proofs.AtAddressLaws.{state_held, state_none}
use Rattle.rc_rib.specs.Again.{AllReadNothing, ReadsNothing}
use Rattle.rc_rib.specs.Next.{next_state}
use Rattle.rc_route.specs.declared.outcome.Outcome.TheVariants.{Fixed}
use Rattle.rc_route.specs.declared.state.RouterState.{RouterState}
use Rattle.rc_topology.specs.Ports.{links_of}
use Rattle.rc_topology.specs.Topology.{Topology}
use Rattle.rc_rounds.specs.AtAddress.{AreAlikeAt, IsFirstState, IsKnownAt}
use Rattle.rc_rounds.specs.Rounds.{empty_state, EndsAs, GoesOn, GoesOnBelow}
use Rattle.rc_reads.proofs.OwnLaws.{own_in_order}

module _ (net : Network) (i : Internal) (a : ℕ) where
  -- who reads nothing beside the routes at an address reads nothing beside all of them
  one_reads_nothing : (r : ℕ) → ReadsNothing net (internal_at a i) r → ReadsNothing net i r
  one_reads_nothing r none = record { others = record { no_process = none.others.no_process; no_sessions = none.others.no_sessions; no_boundaries = none.others.no_boundaries }; lines = none.lines }

  pub all_read_nothing : AllReadNothing net (internal_at a i) → AllReadNothing net i
  all_read_nothing none r less = one_reads_nothing r (none r less)

-- so the second round finds the state of the first one
module _ (net : Network) (i : Internal) (none : AllReadNothing net i) (some : next_state net i (empty_state net) ≢ empty_state net) where
  first_goes_on : GoesOnBelow net i 2
  first_goes_on j low high =
      let one : 1 ≡ j = omega (arith, low, high) in
      subst (GoesOn net i) one (record { changes = some; is_new = some })

  pub ends_fixed : (limit : ℕ) → 2 ≤ limit → EndsAs net i limit (Fixed 2 (next_state net i (empty_state net)))
  ends_fixed limit within =
      let same : next_state net i (empty_state net) ≡ next_state net i (next_state net i (empty_state net)) = state_of_any net i none (empty_state net) (next_state net i (empty_state net)) in
      (omega arith, within, first_goes_on, same, sym same)

-- and where it makes nothing, the rounds end with it
pub ends_first : (net : Network) (i : Internal) → next_state net i (empty_state net) ≡ empty_state net → (limit : ℕ) → 1 ≤ limit → EndsAs net i limit (Fixed 1 (next_state net i (empty_state net)))
ends_first net i same limit within = (omega arith, within, none_before, refl, same)
  where
    none_before : GoesOnBelow net i 1
    none_before j low high = absurd (let none : ⊥ = omega (arith, low, high) in none)

-- all that is known at an address
pub known : (net : Network) (i : Internal) (a : ℕ) (links : Topology) (state : List RouterState) → i.links ≡ links_of net → links ≡ links_of net → IsInternalAt net a i → AllReadNothing net i → IsFirstState net i state → IsKnownAt net a links state
known net i a links state of_net these (whole, is, e) none first = record {
  whole = next_state net whole (empty_state net);
  own = these;
  outcome = λ limit within. record { internal = whole; links = ap (λ (x : Internal). x.links) (sym e) ∙ of_net; is_internal = is; ends = ends_fixed net whole nothing some limit within };
  alike = subst (λ (ss : List RouterState). AreAlikeAt a (next_state net whole (empty_state net)) ss) (sym made) (state_held net whole a (empty_state net));
  in_order = first.in_order.each;
}
  where
    made : state ≡ next_state net (internal_at a whole) (empty_state net)
    made = first.value ∙ ap (λ x. next_state net x (empty_state net)) e

    nothing : AllReadNothing net whole
    nothing = all_read_nothing net whole a (subst (λ (x : Internal). AllReadNothing net x) e none)

    some : next_state net whole (empty_state net) ≢ empty_state net
    some empty = first.some_known (made ∙ state_none net whole a (empty_state net) empty)

-- the prefixes that routers advertise themselves are in order
pub own_at : (net : Network) (i : Internal) (a : ℕ) → IsInternalAt net a i → All (IsStrictlySortedBy prefix_cmp) i.own
own_at net i a (whole, is, e) = subst (λ (x : Internal). All (IsStrictlySortedBy prefix_cmp) x.own) (sym e) (own_in_order net whole is)
