-- What a router knows in a state, found by prefix.
use Rattle.std.specs.Prelude.{ℕ, List, [], Option, slice_get}
use Rattle.std.specs.Option.{option_map_or}
use Rattle.rc_base.specs.Prefix.{Cidr}
use Rattle.rc_route.specs.Tables.{listed_at}
use Rattle.rc_route.specs.declared.best.Best.{Best}
use Rattle.rc_route.specs.declared.path.BgpPath.{BgpPath}
use Rattle.rc_route.specs.declared.route.Route.{Route}
use Rattle.rc_route.specs.declared.state.RouterState.{RouterState}

-- the table of a router in a state; none where there is no such router
abbrev pub table_of : List RouterState → ℕ → List Route
table_of state r = option_map_or (λ (s : RouterState). s.table) (slice_get state r) []

-- the best paths of a router in a state; none where there is no such router
abbrev pub paths_of : List RouterState → ℕ → List Best
paths_of state r = option_map_or (λ (s : RouterState). s.paths) (slice_get state r) []

-- the route of just this prefix
abbrev pub route_at : List Route → Cidr → Option Route
route_at table p = listed_at (λ (x : Route). x.prefix) table p

-- the path of just this prefix
abbrev pub path_at : List BgpPath → Cidr → Option BgpPath
path_at paths p = listed_at (λ (x : BgpPath). x.prefix) paths p
