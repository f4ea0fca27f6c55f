-- The routes of a router as they are taken.
use Rattle.std.specs.Prelude.{List, ◌++◌}
use Rattle.rc_route.specs.declared.route.Route.{Route}
use Rattle.rc_ospf.specs.Members.{table_of}
use Rattle.rc_ospf.specs.declared.taking.RoutesOf.{RoutesOf}

-- whatever had become of a first one by taking routes: by taking these as well, the other one has become of it
abbrev pub Takes : {T : Type 0} → (T → List Route → T → Type 0) → List Route → T → T → Type 0
Takes {T} becomes more old new = (start : T) (routes : List Route) → becomes start routes old → becomes start (routes ++ more) new

-- the routes of a router to the destinations
abbrev pub routes_in : RoutesOf → List Route
routes_in r = table_of r.destinations.now r.member.now
