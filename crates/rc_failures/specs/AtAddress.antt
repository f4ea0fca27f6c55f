-- Routes that say where a packet goes.
use Rattle.std.specs.Prelude.{Bool, List}
use Rattle.std.specs.Arc.{arc_value}
use Rattle.std.specs.List.{list_all}
use Rattle.std.specs.declared.alloc.Global.{Global}
use Rattle.std.specs.declared.sync.Arc.{Arc}
use Rattle.rc_fib.specs.Forwarding.{is_resolved}
use Rattle.rc_route.specs.declared.route.Route.{Route}
use Rattle.rc_route.specs.declared.state.RouterState.{RouterState}

-- each hop of a route says where a packet goes, with no look-up
abbrev pub is_plain : Route → Bool
is_plain r = list_all is_resolved r.hops

-- each hop of a part of a table does
unfoldable pub is_plain_part : Arc (List Route) Global → Bool
is_plain_part part = list_all is_plain (arc_value part)

-- so does each hop that a router knows
abbrev pub knows_plain : RouterState → Bool
knows_plain s = list_all is_plain s.table
