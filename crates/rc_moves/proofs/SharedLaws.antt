-- What a router knows may be read by several threads at once. Its type is too deep for a search through all that it holds, so that of routes and of
-- best paths comes first.
use denote.Param.Send.{IsSend, IsSync, sendable}
use Rattle.std.proofs.Crossing.{crosses}
use Rattle.rc_as_path.proofs.segment.Segment.TheLaws.TheKnot as segments
use Rattle.rc_route.specs.contracts.route.Route as route
use Rattle.rc_route.specs.contracts.best.Best as best
use Rattle.rc_route.specs.contracts.state.RouterState.{the_row}

route_send : IsSend route.the_row
route_send = search (crosses, segments.crosses, sendable) depth 60 fits 20000

route_sync : IsSync route.the_row
route_sync = search (crosses, segments.crosses, sendable) depth 60 fits 20000

best_send : IsSend best.the_row
best_send = search (crosses, segments.crosses, sendable) depth 60 fits 20000

best_sync : IsSync best.the_row
best_sync = search (crosses, segments.crosses, sendable) depth 60 fits 20000

pub state_sync : IsSync the_row
state_sync = search (crosses, route_send, route_sync, best_send, best_sync, sendable) depth 60 fits 20000
