-- The routes and paths of all routers, from what the code keeps of them.
use Rattle.std.proofs.Common.{refl, ◌≡◌, ap, ◌∙◌, ℕ, suc, List, [], ◌∷◌, map, Option}
use Rattle.std.specs.List.{filter_map, cons_option}
use Rattle.rc_config.specs.declared.network.Network.{Network}
use Rattle.rc_ospf.specs.Areas.{OspfRouter, without_stubs}
use Rattle.rc_ospf.specs.Boundaries.{boundary_routers, boundary_path, boundary_paths}
use Rattle.rc_ospf.specs.BoundaryForms.{target_of, path_of_target}
use Rattle.rc_ospf.specs.ByPrefix.{destination_of, destination_route}
use Rattle.rc_ospf.specs.Members.{known}
use Rattle.rc_ospf.specs.Routes.{with_default, offered_rows, internal_route, internal_routes}
use Rattle.rc_link_state.specs.declared.step.Step.{Step}
use Rattle.rc_ospf.specs.declared.ospf_router.Member.{Member}
use Rattle.rc_ospf.specs.declared.member.StubAreas.TheVariants.{Kept, LeftOut}
use Rattle.rc_ospf.specs.declared.offer.Advert.{Advert}
use Rattle.rc_ospf.proofs.MemberLaws.{AreMembers, left_out}

pub filter_map-map : {X Y Z : Type 0} (f : Y → Option Z) (g : X → Y) (xs : List X) → filter_map f (map g xs) ≡ filter_map (λ x. f (g x)) xs
filter_map-map f g [] = refl
filter_map-map f g (x ∷ xs) = ap (cons_option (f (g x))) (filter_map-map f g xs)

pub routes_are : (routers : List OspfRouter) (adverts : List Advert) (ms : List Member) →
    map (λ m. filter_map (destination_route (known Kept m)) (map (destination_of routers) (with_default (offered_rows adverts)))) ms ≡ map (internal_routes routers adverts) (map (known Kept) ms)
unfolding internal_routes
routes_are routers adverts [] = refl
routes_are routers adverts (m ∷ ms) =
    ap (λ t. t ∷ map (λ x. filter_map (destination_route (known Kept x)) (map (destination_of routers) (with_default (offered_rows adverts)))) ms)
    (filter_map-map (destination_route (known Kept m)) (destination_of routers) (with_default (offered_rows adverts)))
    ∙ ap (λ ts. filter_map (internal_route routers (known Kept m)) (with_default (offered_rows adverts)) ∷ ts) (routes_are routers adverts ms)

-- the paths of one router
one_boundary : (net : Network) (routers : List OspfRouter) (m : OspfRouter) (ss : List ℕ) →
    filter_map (path_of_target (without_stubs m)) (map (target_of net (map without_stubs routers)) ss) ≡ filter_map (boundary_path net routers m) ss
one_boundary net routers m ss = filter_map-map (path_of_target (without_stubs m)) (target_of net (map without_stubs routers)) ss

pub boundaries_are : (net : Network) (steps : List Step) (routers : List OspfRouter) (lefts : List OspfRouter) (r : ℕ) (ms : List Member) → AreMembers net steps r ms → lefts ≡ map without_stubs routers →
    map (λ m. filter_map (path_of_target (known LeftOut m)) (map (target_of net lefts) (boundary_routers net))) ms ≡ map (boundary_paths net routers) (map (known Kept) ms)
boundaries_are net steps routers lefts r [] all same = refl
boundaries_are net steps routers lefts r (m ∷ ms) all same =
    ap (λ t. t ∷ map (λ x. filter_map (path_of_target (known LeftOut x)) (map (target_of net lefts) (boundary_routers net))) ms)
    (ap (λ x. filter_map (path_of_target x) (map (target_of net lefts) (boundary_routers net))) (left_out net steps r m all.0)
    ∙ ap (λ ls. filter_map (path_of_target (without_stubs (known Kept m))) (map (target_of net ls) (boundary_routers net))) same
    ∙ one_boundary net routers (known Kept m) (boundary_routers net))
    ∙ ap (λ ts. boundary_paths net routers (known Kept m) ∷ ts) (boundaries_are net steps routers lefts (suc r) ms all.1 same)
