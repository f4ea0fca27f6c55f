-- Routers as the code keeps them.
use Rattle.std.specs.Prelude.{◌≡◌, ℕ, suc, Bool, List, [], ◌∷◌, map}
use Rattle.std.specs.List.{filter_map}
use Rattle.rc_config.specs.Members.{router_ids}
use Rattle.rc_config.specs.declared.network.Network.{Network}
use Rattle.rc_route.specs.declared.route.Route.{Route}
use Rattle.rc_link_state.specs.Tables.{reach_in}
use Rattle.rc_link_state.specs.Walks.{Reach}
use Rattle.rc_link_state.specs.declared.table.AreaWalks.{AreaWalks}
use Rattle.rc_ospf.specs.Areas.{OspfRouter}
use Rattle.rc_ospf.specs.ByPrefix.{destination_route}
use Rattle.rc_ospf.specs.RouterAreas.{router_areas, open_areas, is_border}
use Rattle.rc_ospf.specs.declared.destination.Destination.{Destination}
use Rattle.rc_ospf.specs.declared.member.Areas.{Areas}
use Rattle.rc_ospf.specs.declared.ospf_router.Member.{Member}
use Rattle.rc_ospf.specs.declared.member.StubAreas.{StubAreas}
use Rattle.rc_ospf.specs.declared.member.StubAreas.TheVariants.{Kept, LeftOut}
use Rattle.rc_ospf.specs.declared.router_area.RouterArea.{RouterArea}

-- the areas of a router as they are kept
abbrev pub areas_at : Network → ℕ → Areas
areas_at net r = record { all = router_areas net r; non_stub = open_areas (router_areas net r) }

abbrev pub areas_in : Network → List Areas
areas_in net = map (areas_at net) (router_ids net)

-- the least walks from it
abbrev pub reach_of : Member → Reach
reach_of m = reach_in m.walks.now.table m.router

abbrev pub areas_known : StubAreas → Member → List RouterArea
areas_known Kept m = m.areas.now.all
areas_known LeftOut m = m.areas.now.non_stub

abbrev pub known : StubAreas → Member → OspfRouter
known stubs m = record { router = m.router; areas = areas_known stubs m; reach = reach_of m }

-- a router with these areas, of which these walks tell
pub record IsMemberOver (table : List AreaWalks) (r : ℕ) (own : Areas) (m : Member) : Type 0 where
  pub router : m.router ≡ r
  pub areas : m.areas.now ≡ own
  pub walks : m.walks.now.table ≡ table

-- they are those from one on
abbrev pub AreMembersOver : List AreaWalks → ℕ → List Areas → List Member → Type 0
AreMembersOver walks r [] [] = Unit {0}
AreMembersOver walks r [] (m ∷ ms) = ⊥
AreMembersOver walks r (a ∷ all) [] = ⊥
AreMembersOver walks r (a ∷ all) (m ∷ ms) = IsMemberOver walks r a m × AreMembersOver walks (suc r) all ms

-- the routes of a router to some destinations
abbrev pub table_of : List Destination → Member → List Route
table_of destinations m = filter_map (destination_route (known Kept m)) destinations

abbrev pub is_border_at : StubAreas → Member → Bool
is_border_at stubs m = is_border (areas_known stubs m)

abbrev pub are_border : Areas → Bool
are_border a = is_border a.all
