-- The routers that the code keeps are those of the network.
use Rattle.std.proofs.Common.{refl, ◌≡◌, ap, sym, ◌∙◌, subst, ℕ, zero, suc, ◌+◌, ◌<◌, List, [], ◌∷◌, ◌++◌, length, map, take, get_or, arith}
use Rattle.std.proofs.lemmas.List.{length-map, length-take-le, take_more}
use Rattle.std.proofs.lemmas.List.FromFn.{length-range_with_len}
use Rattle.std.specs.List.{list_any, range_with_len}
use Rattle.std.specs.Prelude.{◌||◌}
use Rattle.rc_config.specs.Members.{router_ids}
use Rattle.rc_config.specs.declared.network.Network.{Network}
use Rattle.rc_link_state.specs.Tables.{reach_in}
use Rattle.rc_link_state.specs.Walks.{Reach, IsReach}
use Rattle.rc_link_state.specs.declared.step.Step.{Step}
use Rattle.rc_link_state.specs.declared.table.AreaWalks.{AreaWalks}
use Rattle.rc_ospf.specs.Areas.{OspfRouter, AreOspfRouters, without_stubs}
use Rattle.rc_ospf.specs.Members.{areas_at, areas_in, reach_of, known, is_border_at, are_border, IsMemberOver, AreMembersOver}
use Rattle.rc_ospf.specs.RouterAreas.{open_areas}
use Rattle.rc_ospf.specs.declared.member.Areas.{Areas}
use Rattle.rc_ospf.specs.declared.ospf_router.Member.{Member}
use Rattle.rc_ospf.specs.declared.member.StubAreas.TheVariants.{Kept, LeftOut}
use Rattle.rc_ospf.specs.declared.router_area.RouterArea.{RouterArea}

-- ---- routers made one after another, over some walks

pub one_over_more : (walks : List AreaWalks) (r : ℕ) (all : List Areas) (a : Areas) (ms : List Member) (m : Member) → AreMembersOver walks r all ms → IsMemberOver walks (r + length all) a m →
    AreMembersOver walks r (all ++ a ∷ []) (ms ++ m ∷ [])
one_over_more walks r [] a [] m are is = (subst (λ k. IsMemberOver walks k a m) (let e : r + 0 ≡ r = omega arith in e) is, tt)
one_over_more walks r [] a (n ∷ ms) m are is = absurd are
one_over_more walks r (b ∷ all) a [] m are is = absurd are
one_over_more walks r (b ∷ all) a (n ∷ ms) m are is = (
  are.0,
  one_over_more walks (suc r) all a ms m are.1 (subst (λ k. IsMemberOver walks k a m) (let e : r + suc (length all) ≡ suc r + length all = omega arith in e) is),
)

pub one_over_next : (walks : List AreaWalks) (all : List Areas) (i : ℕ) (own : Areas) (ms new : List Member) (m : Member) → i < length all → own ≡ get_or all i own → new ≡ ms ++ m ∷ [] → IsMemberOver walks i own m →
    AreMembersOver walks 0 (take i all) ms → AreMembersOver walks 0 (take (i + 1) all) new
one_over_next walks all i own ms new m lt at pushed is are =
    let next : take (i + 1) all ≡ take i all ++ own ∷ [] = take_more all i own lt ∙ ap (λ a. take i all ++ a ∷ []) (sym at) in
    let here : i ≡ 0 + length (take i all) = omega (arith, length-take-le i all (omega (arith, lt))) in
    subst (AreMembersOver walks 0 (take (i + 1) all)) (sym pushed) (subst (λ xs. AreMembersOver walks 0 xs (ms ++ m ∷ [])) (sym next)
    (one_over_more walks 0 (take i all) own ms m are (subst (λ k. IsMemberOver walks k own m) here is)))

as_many_over : (walks : List AreaWalks) (r : ℕ) (all : List Areas) (ms : List Member) → AreMembersOver walks r all ms → length ms ≡ length all
as_many_over walks r [] [] are = refl
as_many_over walks r [] (m ∷ ms) are = absurd are
as_many_over walks r (a ∷ all) [] are = absurd are
as_many_over walks r (a ∷ all) (m ∷ ms) are = ap suc (as_many_over walks (suc r) all ms are.1)

-- there are as many as routers
pub as_many_members : (net : Network) (walks : List AreaWalks) (ms : List Member) → AreMembersOver walks 0 (areas_in net) ms → length ms ≡ length net.routers
as_many_members net walks ms are =
    as_many_over walks 0 (areas_in net) ms are ∙ length-map (router_ids net) (areas_at net) ∙ length-range_with_len 0 (length net.routers)

-- by their areas it is told whether some router is a border router
pub border_over : (walks : List AreaWalks) (r : ℕ) (all : List Areas) (ms : List Member) → AreMembersOver walks r all ms → list_any (is_border_at Kept) ms ≡ list_any are_border all
border_over walks r [] [] are = refl
border_over walks r [] (m ∷ ms) are = absurd are
border_over walks r (a ∷ all) [] are = absurd are
border_over walks r (a ∷ all) (m ∷ ms) are =
    ap (λ b. b || list_any (is_border_at Kept) ms) (ap are_border are.0.areas) ∙ ap (λ b. are_border a || b) (border_over walks (suc r) all ms are.1)

-- what is known of the walks from each of the routers is known of theirs
module _ (walks : List AreaWalks) (Knows : ℕ → Reach → Type 0) where
  pub knows_over : (r : ℕ) (a : Areas) (m : Member) → IsMemberOver walks r a m → Knows r (reach_in walks r) → Knows r (reach_of m)
  knows_over r a m is told = subst (λ ws. Knows r (reach_in ws m.router)) (sym is.walks) (subst (λ k. Knows r (reach_in walks k)) (sym is.router) told)

-- ---- over all least walks they are those of the network

pub record IsMember (net : Network) (steps : List Step) (r : ℕ) (m : Member) : Type 0 where
  pub router : m.router ≡ r
  pub areas : m.areas.now ≡ areas_at net r
  pub reach : IsReach steps r (reach_of m)

-- they are the routers of a network from one on
abbrev pub AreMembers : Network → List Step → ℕ → List Member → Type 0
AreMembers net steps r [] = Unit {0}
AreMembers net steps r (m ∷ ms) = IsMember net steps r m × AreMembers net steps (suc r) ms

members_from : (net : Network) (steps : List Step) (walks : List AreaWalks) (r n : ℕ) (ms : List Member) → ((k : ℕ) → k < r + n → IsReach steps k (reach_in walks k)) →
    AreMembersOver walks r (map (areas_at net) (range_with_len r n)) ms → AreMembers net steps r ms
members_from net steps walks r zero [] each are = tt
members_from net steps walks r zero (m ∷ ms) each are = absurd are
members_from net steps walks r (suc n) [] each are = absurd are
members_from net steps walks r (suc n) (m ∷ ms) each are = (
  record { router = are.0.router; areas = are.0.areas; reach = knows_over walks (IsReach steps) r (areas_at net r) m are.0 (each r (omega arith)) },
  members_from net steps walks (suc r) n ms (λ k lt. each k (omega (arith, lt)))
      (subst (λ k. AreMembersOver walks (suc r) (map (areas_at net) (range_with_len k n)) ms) (let e : r + 1 ≡ suc r = omega arith in e) are.1),
)

pub members_over : (net : Network) (steps : List Step) (walks : List AreaWalks) (ms : List Member) → ((k : ℕ) → k < length net.routers → IsReach steps k (reach_in walks k)) →
    AreMembersOver walks 0 (areas_in net) ms → AreMembers net steps 0 ms
members_over net steps walks ms each are = members_from net steps walks 0 (length net.routers) ms (λ k lt. each k (omega (arith, lt))) are

pub ospf_routers : (net : Network) (steps : List Step) (r : ℕ) (ms : List Member) → AreMembers net steps r ms → AreOspfRouters net steps r (map (known Kept) ms)
ospf_routers net steps r [] all = tt
ospf_routers net steps r (m ∷ ms) all = (record { router = all.0.router; areas = ap (λ (a : Areas). a.all) all.0.areas; reach = all.0.reach }, ospf_routers net steps (suc r) ms all.1)

-- without stub areas they are the routers without these
abbrev with_areas : Member → List RouterArea → OspfRouter
with_areas m areas = record { router = m.router; areas = areas; reach = reach_of m }

pub left_out : (net : Network) (steps : List Step) (r : ℕ) (m : Member) → IsMember net steps r m → known LeftOut m ≡ without_stubs (known Kept m)
left_out net steps r m is = ap (with_areas m) (ap (λ (a : Areas). a.non_stub) is.areas ∙ sym (ap (λ (a : Areas). open_areas a.all) is.areas))

pub all_left_out : (net : Network) (steps : List Step) (r : ℕ) (ms : List Member) → AreMembers net steps r ms → map (known LeftOut) ms ≡ map without_stubs (map (known Kept) ms)
all_left_out net steps r [] all = refl
all_left_out net steps r (m ∷ ms) all =
    ap (λ x. x ∷ map (known LeftOut) ms) (left_out net steps r m all.0) ∙ ap (λ xs. without_stubs (known Kept m) ∷ xs) (all_left_out net steps (suc r) ms all.1)
