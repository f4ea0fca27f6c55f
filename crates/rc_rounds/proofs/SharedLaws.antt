-- What a router knows may be sent to another thread, and read by several at once. Its type is too deep for a search through all that it holds, so that
-- of routes and of best paths comes first.
use denote.Param.Send.{IsSend, IsSync, sendable}
use Rattle.std.proofs.Crossing.{crosses}
use Rattle.rc_as_path.proofs.segment.Segment.TheLaws.TheKnot as segments
use Rattle.rc_route.specs.contracts.route.Route as route
use Rattle.rc_route.specs.contracts.best.Best as best
use Rattle.rc_pieces.proofs.pieces.Pieces.TheSendSync as pieces
use Rattle.rc_pieces.specs.contracts.known.Known.{the_row}

route_send : IsSend route.the_row
route_send = search (crosses, segments.crosses, sendable) depth 60 fits 20000

route_sync : IsSync route.the_row
route_sync = search (crosses, segments.crosses, sendable) depth 60 fits 20000

best_send : IsSend best.the_row
best_send = search (crosses, segments.crosses, sendable) depth 60 fits 20000

best_sync : IsSync best.the_row
best_sync = search (crosses, segments.crosses, sendable) depth 60 fits 20000

pub known_send : IsSend the_row
known_send = search (pieces.the_send, route_send, route_sync, best_send, best_sync, sendable) depth 60 fits 20000

pub known_sync : IsSync the_row
known_sync = search (pieces.the_sync, route_send, route_sync, best_send, best_sync, sendable) depth 60 fits 20000
