-- Each step leaves by an interface, which is in one of its router's areas. So no walk leads from a router inside any other area.
use Rattle.std.proofs.Common.{refl, ◌≡◌, ap, sym, ◌∙◌, subst, ℕ, zero, suc, ◌+◌, ◌<◌, inl, inr, Bool, true, false, List, [], ◌∷◌, length, map, filter, get_or, Option, Some, None, MatchOption, eq-eqb, arith}
use Rattle.std.specs.Prelude.{◌==◌, ◌||◌, is_some}
use Rattle.std.specs.FinMap.{nat_cmp-IsAntisymmetric}
use Rattle.std.specs.List.{filter_map, flat_map, range_with_len}
use Rattle.std.specs.Option.{option_map_or}
use Rattle.std.specs.Ordering.{nat_cmp}
use Rattle.std.specs.declared.cmp.Ordering.TheVariants.{Equal}
use Rattle.rc_base.specs.Lists.{in_order}
use Rattle.rc_config.specs.Members.{router_at, router_ids}
use Rattle.rc_config.specs.declared.network.Network.{Network}
use Rattle.rc_config.specs.declared.ospf.OspfProcess.{OspfProcess}
use Rattle.rc_config.specs.declared.router_text.RouterText.{RouterText}
use Rattle.rc_link_state.proofs.Members.{In, contains_in, in_map, of_map, in_either, in_order_in}
use Rattle.rc_link_state.proofs.TowardsLaws.{in_filter_map}
use Rattle.rc_link_state.specs.Adjacency.{is_adjacent, step_over, adjacencies}
use Rattle.rc_link_state.specs.Tables.{reach_in}
use Rattle.rc_link_state.specs.Walks.{IsWalk, LeastWalks, AreLeastWalks, Reach, IsReach}
use Rattle.rc_link_state.specs.declared.step.Step.{Step}
use Rattle.rc_ospf_interfaces.specs.Interfaces.{interface_at, interfaces_of, interfaces_at, ospf_interfaces}
use Rattle.rc_ospf_interfaces.specs.declared.interface.OspfInterface.{OspfInterface}
use Rattle.rc_topology.specs.Topology.{Topology}
use Rattle.rc_ospf.specs.Internal.{steps_of}
use Rattle.rc_ospf.specs.Members.{areas_at, areas_in}
use Rattle.rc_ospf.specs.RouterAreas.{router_area, interface_area, areas_of, areas_in_file, router_areas, is_in}
use Rattle.rc_ospf.specs.Stays.{StaysIn, StayFrom}
use Rattle.rc_ospf.specs.declared.known_walks.KnownWalks.{KnownWalks}
use Rattle.rc_ospf.specs.declared.member.Areas.{Areas}
use Rattle.rc_ospf.proofs.FitLaws.{made_at}

same_number : (x y : ℕ) → nat_cmp x y ≡ Equal → x ≡ y
same_number x y is = nat_cmp-IsAntisymmetric x y is

of_flat : {X Y : Type 0} (f : X → List Y) (xs : List X) (y : Y) → In y (flat_map f xs) → (x : X) × In x xs × In y (f x)
of_flat f [] y there = absurd there
of_flat f (z ∷ xs) y there = elim (in_either (f z) (flat_map f xs) y there) [
  | inl front ↦ (z, inl refl, front)
  | inr back ↦ (let (x, has, is) = of_flat f xs y back in (x, inr has, is))
]

-- ---- an interface is in one of its router's areas

is_among : (p : OspfProcess) (area : ℕ) (areas : List ℕ) → In area areas → is_in area (map (router_area p) areas) ≡ true
is_among p area [] there = absurd there
is_among p area (a ∷ areas) (inl same) = ap (λ b. b || is_in area (map (router_area p) areas)) (eq-eqb a area same)
is_among p area (a ∷ areas) (inr later) = either (a == area) (is_in area (map (router_area p) areas)) (is_among p area areas later)
  where
    either : (b c : Bool) → c ≡ true → (b || c) ≡ true
    either true c is = refl
    either false c is = is

module _ (r : ℕ) (file : RouterText) (i : OspfInterface) where
  abbrev interfaces_by : Option OspfProcess → List OspfInterface
  interfaces_by o = option_map_or (λ (p : OspfProcess). filter_map (interface_at r file.interfaces p) (range_with_len 0 (length file.interfaces))) o []

  own_in_file : In i (interfaces_of r file) → (i.id.router ≡ r) × (is_in i.area (areas_in_file r file) ≡ true)
  own_in_file there = by file.ospf there
    where
      by : (o : Option OspfProcess) → In i (interfaces_by o) → (i.id.router ≡ r) × (is_in i.area (option_map_or (λ (p : OspfProcess). areas_of p (interfaces_by o)) o []) ≡ true)
      by None there = absurd there
      by (Some p) there =
          let own = interfaces_by (Some p) in
          let (index, has, made) = (in_filter_map (interface_at r file.interfaces p) (range_with_len 0 (length file.interfaces)) i).0 there in (
            made_at (λ (x : OspfInterface). x.id.router ≡ r) p r file.interfaces index (λ name block primary area. refl) i made,
            is_among p i.area (in_order nat_cmp (map interface_area own)) ((in_order_in nat_cmp same_number (map interface_area own) i.area).1 (in_map interface_area own i there)),
          )

own_at : (net : Network) (r : ℕ) (i : OspfInterface) → In i (interfaces_at net r) → (i.id.router ≡ r) × (is_in i.area (router_areas net r) ≡ true)
own_at net r i there = by (router_at net r) there
  where
    by : (o : Option RouterText) → In i (option_map_or (interfaces_of r) o []) → (i.id.router ≡ r) × (is_in i.area (option_map_or (areas_in_file r) o []) ≡ true)
    by None there = absurd there
    by (Some file) there = own_in_file r file i there

-- ---- and so is each step that leaves by it

module _ (net : Network) (links : Topology) where
  step_stays : (x : Step) → In x (steps_of net links) → is_in x.area (router_areas net x.out.router) ≡ true
  unfolding adjacencies ospf_interfaces
  step_stays x there =
      let (i, has, steps) = of_flat (λ i. map (step_over i) (filter (is_adjacent links i) (ospf_interfaces net))) (ospf_interfaces net) x there in
      let (j, among, same) = of_map (step_over i) (filter (is_adjacent links i) (ospf_interfaces net)) x steps in
      let (r, is_router, at) = of_flat (interfaces_at net) (router_ids net) i has in
      let own = own_at net r i at in
      subst (λ (y : Step). is_in y.area (router_areas net y.out.router) ≡ true) same (subst (λ k. is_in i.area (router_areas net k) ≡ true) (sym own.0) own.1)

  module _ (r : ℕ) (reach : Reach) (is : IsReach (steps_of net links) r reach) (area s : ℕ) (outside : is_in area (router_areas net r) ≡ false) (other : (s == r) ≡ false) where
    no_walk : (walk : List Step) → IsWalk (steps_of net links) area r walk s → ⊥
    no_walk [] same = absurd (let e : true ≡ false = sym (eq-eqb s r (sym same)) ∙ other in cc)
    no_walk (x ∷ walk) goes =
        let own = subst (λ k. is_in x.area (router_areas net k) ≡ true) goes.2 (step_stays x (contains_in (steps_of net links) x goes.0)) in
        let here = subst (λ a. is_in a (router_areas net r) ≡ true) goes.1 own in absurd (let e : true ≡ false = sym here ∙ outside in cc)

    none_outside : is_some (reach area s) ≡ false
    none_outside = by (reach area s) (is area s)
      where
        by : (o : Option LeastWalks) → MatchOption o ((walk : List Step) → IsWalk (steps_of net links) area r walk s → ⊥) (AreLeastWalks (steps_of net links) area r s) → is_some o ≡ false
        by None none = refl
        by (Some e) are = (let (w, least, total) = are.cost in absurd (no_walk w least.is_walk))

-- ---- what is known of the walks of routers

stay_from : (net : Network) (walks : KnownWalks) (r n : ℕ) → ((k : ℕ) → k < r + n → StaysIn walks k (router_areas net k)) → StayFrom walks r (map (areas_at net) (range_with_len r n))
stay_from net walks r zero each = tt
stay_from net walks r (suc n) each = (
  each r (omega arith),
  subst (λ k. StayFrom walks (suc r) (map (areas_at net) (range_with_len k n))) (let e : suc r ≡ r + 1 = omega arith in e) (stay_from net walks (suc r) n (λ k lt. each k (omega (arith, lt)))),
)

pub all_stay : (net : Network) (links : Topology) (walks : KnownWalks) → ((k : ℕ) → k < length net.routers → IsReach (steps_of net links) k (reach_in walks.table k)) → StayFrom walks 0 (areas_in net)
all_stay net links walks each = stay_from net walks 0 (length net.routers)
    (λ k lt. record { none = λ all area s outside other. none_outside net links k (reach_in walks.table k) (each k (omega (arith, lt))) area s outside other })

-- where not all are known nothing is told of them
pub some_stay : (walks : KnownWalks) → walks.are_all ≡ false → (r : ℕ) (all : List Areas) → StayFrom walks r all
some_stay walks some r [] = tt
some_stay walks some r (a ∷ all) = (record { none = λ are area s outside other. absurd (let e : true ≡ false = sym are ∙ some in cc) }, some_stay walks some (suc r) all)

pub stays_at : (walks : KnownWalks) (r : ℕ) (all : List Areas) (i : ℕ) (own : Areas) → i < length all → own ≡ get_or all i own → StayFrom walks r all → StaysIn walks (r + i) own.all
stays_at walks r [] i own lt at stay = absurd (omega (arith, lt))
stays_at walks r (a ∷ all) zero own lt at stay =
    subst (λ k. StaysIn walks k own.all) (let e : r ≡ r + 0 = omega arith in e) (subst (λ (b : Areas). StaysIn walks r b.all) (sym at) stay.0)
stays_at walks r (a ∷ all) (suc i) own lt at stay =
    subst (λ k. StaysIn walks k own.all) (let e : suc r + i ≡ r + suc i = omega arith in e) (stays_at walks (suc r) all i own (omega (arith, lt)) at stay.1)
