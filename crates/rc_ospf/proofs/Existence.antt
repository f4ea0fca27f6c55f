-- Each network has what OSPF gives without a state.
use Rattle.std.proofs.Common.{refl, ◌≡◌, ap, ◌∙◌, subst, ℕ, zero, suc, ◌+◌, ◌↔◌, inl, inr, Bool, true, false, cond, List, length, map, Option, Some, None, MatchOption, Contains, arith, eq-eqb}
use Rattle.std.specs.Prelude.{◌==◌, ◌&&◌}
use Rattle.std.specs.List.{filter_map, range_with_len}
use Rattle.std.specs.List.Sorted.{IsStrictlySortedBy}
use Rattle.std.specs.Option.{option_map, option_map_or}
use Rattle.std.proofs.lemmas.List.{length-map}
use Rattle.std.proofs.lemmas.List.FromFn.{length-range_with_len}
use Rattle.rc_base.specs.Lists.{in_order}
use Rattle.rc_base.proofs.OrderedLaws.{in_order-sorted}
use Rattle.rc_config.specs.Members.{router_ids}
use Rattle.rc_config.specs.declared.network.Network.{Network}
use Rattle.rc_route.specs.Hops.{hop_cmp}
use Rattle.rc_route.specs.declared.route.Hop.{Hop}
use Rattle.rc_route.proofs.OrderLaws.{hop_cmp_total, same_by_hop_cmp}
use Rattle.rc_link_state.specs.Adjacency.{hop_of}
use Rattle.rc_ospf.specs.Areas.{OspfRouter, AreOspfRouters}
use Rattle.rc_ospf.specs.Boundaries.{boundary_paths}
use Rattle.rc_ospf.specs.Internal.{HasInternal, steps_of, adverts_in}
use Rattle.rc_ospf.specs.RouterAreas.{router_areas}
use Rattle.rc_ospf.specs.Routes.{internal_routes, own_prefixes}
use Rattle.rc_link_state.specs.Towards.{IsCostFrom, AreCostsTo, LeadsOn}
use Rattle.rc_link_state.specs.Walks.{Reach, IsReach, IsWalk, AreLeastWalks, walk_cost}
use Rattle.rc_link_state.specs.declared.step.Step.{Step}
use Rattle.rc_ospf.proofs.LeastWalks.{Leads, leads}
use Rattle.rc_link_state.proofs.Members.{contains_in, in_contains, in_order_in}
use Rattle.rc_link_state.proofs.TowardsLaws.{in_filter_map, towards, none_towards}

cost_of : (area : ℕ) (steps : List Step) (r s : ℕ) → Leads area steps r s → Option ℕ
cost_of area steps r s (inl found) = Some (walk_cost found.0)
cost_of area steps r s (inr none) = None

module _ (steps : List Step) (area s : ℕ) where
  cost_to : ℕ → Option ℕ
  cost_to r = cost_of area steps r s (leads area steps r s)

  are_costs : AreCostsTo steps area s cost_to
  unfolding cost_to cost_of
  are_costs r = by (leads area steps r s)
    where
      by : (found : Leads area steps r s) → IsCostFrom steps area s r (cost_of area steps r s found)
      by (inl found) = (found.0, found.1, refl)
      by (inr none) = none

  module _ (r cost : ℕ) where
    abbrev is_on : Step → Bool
    is_on x = (x.area == area) && (x.out.router == r) && option_map_or (λ left. left + x.cost == cost) (cost_to x.to) false

    abbrev hop_on : Step → Option Hop
    hop_on x = cond (is_on x) (Some (hop_of x)) None

    on : (x : Step) (h : Hop) → Contains steps x → hop_on x ≡ Some h → LeadsOn steps area r cost_to cost h
    on x h there is = by (x.area == area) refl (x.out.router == r) refl (cost_to x.to) refl is
      where
        by : (a : Bool) → (x.area == area) ≡ a → (b : Bool) → (x.out.router == r) ≡ b → (o : Option ℕ) → cost_to x.to ≡ o →
            cond (a && b && option_map_or (λ left. left + x.cost == cost) o false) (Some (hop_of x)) None ≡ Some h → LeadsOn steps area r cost_to cost h
        by false at b from o left is = absurd (cc)
        by true at false from o left is = absurd (cc)
        by true at true from None left is = absurd (cc)
        by true at true from (Some d) left is = last (d + x.cost == cost) refl is
          where
            last : (c : Bool) → (d + x.cost == cost) ≡ c → cond c (Some (hop_of x)) None ≡ Some h → LeadsOn steps area r cost_to cost h
            last false sum is = absurd (cc)
            last true sum is = record {
              step = x;
              is_step = there;
              in_area = grind (arith, at);
              leaves = grind (arith, from);
              left = d;
              has_left = left;
              sum = grind (arith, sum);
              hop = let some : Some (hop_of x) ≡ Some h = is in cc;
            }

    back : (h : Hop) (l : LeadsOn steps area r cost_to cost h) → hop_on l.step ≡ Some h
    back h l =
        ap (λ a. cond (a && (l.step.out.router == r) && option_map_or (λ left. left + l.step.cost == cost) (cost_to l.step.to) false) (Some (hop_of l.step)) None) (eq-eqb l.step.area area l.in_area)
        ∙ ap (λ b. cond (b && option_map_or (λ left. left + l.step.cost == cost) (cost_to l.step.to) false) (Some (hop_of l.step)) None) (eq-eqb l.step.out.router r l.leaves)
        ∙ ap (λ o. cond (option_map_or (λ left. left + l.step.cost == cost) o false) (Some (hop_of l.step)) None) l.has_left
        ∙ ap (λ c. cond c (Some (hop_of l.step)) None) (eq-eqb (l.left + l.step.cost) cost l.sum)
        ∙ ap Some l.hop

    hops_on : List Hop
    hops_on = in_order hop_cmp (filter_map hop_on steps)

    members : (h : Hop) → Contains hops_on h ↔ LeadsOn steps area r cost_to cost h
    unfolding hops_on
    members h = (
      λ there. (let (x, has, is) = (in_filter_map hop_on steps h).0 ((in_order_in hop_cmp same_by_hop_cmp (filter_map hop_on steps) h).0 (contains_in _ h there)) in on x h (in_contains steps x has) is),
      λ l. in_contains _ h ((in_order_in hop_cmp same_by_hop_cmp (filter_map hop_on steps) h).1 ((in_filter_map hop_on steps h).1 (l.step, contains_in steps l.step l.is_step, back h l))),
    )

    sorted : IsStrictlySortedBy hop_cmp hops_on
    unfolding hops_on
    sorted = in_order-sorted hop_cmp hop_cmp_total (filter_map hop_on steps)

-- the least walks from a router
reach_from : List Step → ℕ → Reach
reach_from steps r area s = option_map (λ c. record { cost = c; hops = hops_on steps area s r c }) (cost_to steps area s r)

is_reach : (steps : List Step) (r : ℕ) → IsReach steps r (reach_from steps r)
unfolding reach_from
is_reach steps r area s = by (cost_to steps area s r) refl
  where
    by : (o : Option ℕ) → cost_to steps area s r ≡ o → MatchOption (option_map (λ c. record { cost = c; hops = hops_on steps area s r c }) o) ((walk : List Step) → IsWalk steps area r walk s → ⊥) (AreLeastWalks steps area r s)
    by None is = none_towards steps area s (cost_to steps area s) (are_costs steps area s) r is
    by (Some c) is = towards steps area s (cost_to steps area s) (are_costs steps area s) r (record { cost = c; hops = hops_on steps area s r c }) is (members steps area s r c) (sorted steps area s r c)

router_of : Network → List Step → ℕ → OspfRouter
router_of net steps r = record { router = r; areas = router_areas net r; reach = reach_from steps r }

-- each network has its routers, with the least walks over any steps
pub routers_in : Network → List Step → List OspfRouter
routers_in net steps = map (router_of net steps) (router_ids net)

are_routers_from : (net : Network) (steps : List Step) (r n : ℕ) → AreOspfRouters net steps r (map (router_of net steps) (range_with_len r n))
unfolding router_of
are_routers_from net steps r zero = tt
are_routers_from net steps r (suc n) =
    let next : r + 1 ≡ suc r = omega arith in
    (record { router = refl; areas = refl; reach = is_reach steps r }, subst (λ k. AreOspfRouters net steps k (map (router_of net steps) (range_with_len (r + 1) n))) next (are_routers_from net steps (r + 1) n))

pub are_routers : (net : Network) (steps : List Step) → AreOspfRouters net steps 0 (routers_in net steps)
unfolding routers_in
are_routers net steps = are_routers_from net steps 0 (length net.routers)

pub as_many : (net : Network) (steps : List Step) → length (routers_in net steps) ≡ length net.routers
unfolding routers_in
as_many net steps = length-map (router_ids net) (router_of net steps) ∙ length-range_with_len 0 (length net.routers)

pub has_internal : HasInternal
has_internal net links =
    let steps = steps_of net links in
    let routers = routers_in net steps in (
      record { links = links; routes = map (internal_routes routers (adverts_in net)) routers; boundaries = map (boundary_paths net routers) routers; own = map (own_prefixes net) (router_ids net) },
      refl,
      record { routers = routers; as_many = as_many net steps; are_routers = are_routers net steps; routes = refl; boundaries = refl; own = refl },
    )
