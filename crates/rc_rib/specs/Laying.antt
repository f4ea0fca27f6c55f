-- What is there for the prefixes of one table that lies over or under another one.
use Rattle.std.specs.Prelude.{List, Some}
use Rattle.rc_bgp.specs.RouterStates.{route_at}
use Rattle.rc_pieces.specs.declared.edit.Edit.{Edit}
use Rattle.rc_route.specs.declared.route.Route.{Route}
use Rattle.rc_rib.specs.Merging.{of_both}

-- at the prefix of a route, the preferred of it and of what is below it
abbrev pub edit_over : List Route → Route → Edit Route
edit_over below x = record { prefix = x.prefix; value = of_both (Some x) (route_at below x.prefix) }

-- at the prefix of a route, the preferred of what is above it and of it
abbrev pub edit_under : List Route → Route → Edit Route
edit_under above x = record { prefix = x.prefix; value = of_both (route_at above x.prefix) (Some x) }
