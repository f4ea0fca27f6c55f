-- What routers know.
use Rattle.std.specs.Prelude.{List, []}
use Rattle.rc_route.specs.declared.best.Best.{Best}
use Rattle.rc_route.specs.declared.route.Route.{Route}
use Rattle.rc_route.specs.declared.state.RouterState.{RouterState}

-- what a router knows with this table and these best paths
abbrev pub known_as : List Route → List Best → RouterState
known_as table paths = record { table = table; paths = paths }

-- what a router knows that knows nothing
abbrev pub nothing_known : RouterState
nothing_known = known_as [] []
