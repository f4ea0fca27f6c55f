-- The routers by which OSPF answers: those of the network, or for an address routers that know the least walks to where it is offered.
use Rattle.std.specs.Prelude.{◌≡◌, ℕ, false, List, [], Option, Some, map, length}
use Rattle.std.specs.List.{list_any}
use Rattle.rc_config.specs.declared.network.Network.{Network}
use Rattle.rc_link_state.specs.declared.end.End.{End}
use Rattle.rc_link_state.specs.declared.step.Step.{Step}
use Rattle.rc_ospf.specs.Areas.{OspfRouter, AreOspfRouters}
use Rattle.rc_ospf.specs.Boundaries as B
use Rattle.rc_ospf.specs.BoundaryForms.{target_of, boundary_paths}
use Rattle.rc_ospf.specs.Ends.{ends_of}
use Rattle.rc_ospf.specs.Internal.{adverts_in, tables_asked}
use Rattle.rc_ospf.specs.Members.{known, areas_in, are_border, AreMembersOver}
use Rattle.rc_ospf.specs.Routes.{internal_routes, offered_rows, rows_asked, with_default}
use Rattle.rc_ospf.specs.Stays.{StayFrom}
use Rattle.rc_ospf.specs.declared.known_walks.KnownWalks.{KnownWalks}
use Rattle.rc_ospf.specs.declared.ospf_router.Member.{Member}
use Rattle.rc_ospf.specs.declared.member.StubAreas.TheVariants.{Kept, LeftOut}

-- The routers that offer a prefix that holds the address, each in its area, where no router is an area border router and none an AS
-- boundary router: the least walks to these decide all routes at the address.
pub record AreEndsAt (net : Network) (address : ℕ) (ends : List End) : Type 0 where
  pub offered : ends ≡ ends_of (rows_asked (Some address) (with_default (offered_rows (adverts_in net))))
  pub no_border : list_any are_border (areas_in net) ≡ false
  pub no_boundary : B.boundary_routers net ≡ []

-- By these routers are made the routes at what is asked for, and the paths to AS boundary routers, that the routers of the network
-- have, with all their least walks.
pub record AnswerAlike (net : Network) (steps : List Step) (asked : Option ℕ) (ms : List Member) : Type 0 where
  pub routers : List OspfRouter
  pub as_many : length routers ≡ length net.routers
  pub are_routers : AreOspfRouters net steps 0 routers
  pub routes : tables_asked asked (map (internal_routes (map (known Kept) ms) (adverts_in net)) (map (known Kept) ms)) ≡ tables_asked asked (map (internal_routes routers (adverts_in net)) routers)
  pub boundaries : map (boundary_paths (map (target_of net (map (known LeftOut) ms)) (B.boundary_routers net))) ms ≡ map (B.boundary_paths net routers) routers

-- over these walks the routers of the network do, and where all walks are known each router is told some inside its own areas alone
pub record AnswerOver (net : Network) (steps : List Step) (asked : Option ℕ) (walks : KnownWalks) : Type 0 where
  pub alike : (ms : List Member) → AreMembersOver walks.table 0 (areas_in net) ms → AnswerAlike net steps asked ms
  pub stay : StayFrom walks 0 (areas_in net)
