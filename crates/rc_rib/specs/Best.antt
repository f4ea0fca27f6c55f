-- The best routes of some candidates: for each prefix the preferred one.
use Rattle.std.specs.Prelude.{◌==◌, Bool, ◌&&◌, ◌||◌, if◌then◌else◌, List, map, filter, Option, nat_lt}
use Rattle.std.specs.List.{filter_map, reduce}
use Rattle.rc_base.specs.Lists.{in_order}
use Rattle.rc_base.specs.Prefix.{Cidr, prefix_cmp, same_prefix}
use Rattle.rc_route.specs.Hops.{source_rank}
use Rattle.rc_route.specs.declared.route.Route.{Route}

-- the least administrative distance wins; at one distance by source
abbrev pub is_preferred : Route → Route → Bool
is_preferred x y = nat_lt x.distance y.distance || ((x.distance == y.distance) && nat_lt (source_rank x.source) (source_rank y.source))

-- the preferred of two routes, the first where neither is
abbrev pub better : Route → Route → Route
better x y = if is_preferred y x then y else x

-- the preferred of some routes
abbrev pub preferred : List Route → Option Route
preferred routes = reduce better routes

-- the routes of a prefix
abbrev pub routes_at : Cidr → List Route → List Route
routes_at p routes = filter (λ (x : Route). same_prefix p x.prefix) routes

-- of the candidates for each prefix the preferred one, by address, then length
unfoldable pub best_routes : List Route → List Route
best_routes candidates = filter_map (λ p. preferred (routes_at p candidates)) (in_order prefix_cmp (map (λ (x : Route). x.prefix) candidates))
