-- AS boundary routers with all that is offered of them, as the code keeps them.
use Rattle.std.specs.Prelude.{ℕ, false, List, Option}
use Rattle.std.specs.List.{filter_map}
use Rattle.rc_config.specs.declared.network.Network.{Network}
use Rattle.rc_ospf.specs.Areas.{OspfRouter, summaries_of}
use Rattle.rc_ospf.specs.BoundaryPaths.{BoundaryPath}
use Rattle.rc_ospf.specs.Boundaries.{boundary_offers, boundary_path_by}
use Rattle.rc_ospf.specs.Members.{known}
use Rattle.rc_ospf.specs.declared.boundary.Target.{Target}
use Rattle.rc_ospf.specs.declared.ospf_router.Member.{Member}
use Rattle.rc_ospf.specs.declared.member.StubAreas.TheVariants.{LeftOut}

abbrev pub target_of : Network → List OspfRouter → ℕ → Target
target_of net routers s = record { router = s; inside = boundary_offers net s; summaries = summaries_of routers false (boundary_offers net s) }

abbrev pub path_of_target : OspfRouter → Target → Option BoundaryPath
path_of_target m target = boundary_path_by m target.router target.inside target.summaries

-- the paths of a router to some others
abbrev pub boundary_paths : List Target → Member → List BoundaryPath
boundary_paths targets m = filter_map (path_of_target (known LeftOut m)) targets
