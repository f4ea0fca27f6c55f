-- Routes in parts, as text.
use Rattle.std.proofs.Common.{◌≡◌, ◌++◌, List, [], ◌∷◌, ap, sym, ◌∙◌, refl, flat_map}
use Rattle.std.specs.Arc.{arc_value}
use Rattle.std.specs.declared.alloc.Global.{Global}
use Rattle.std.specs.declared.sync.Arc.{Arc}
use Rattle.std.proofs.lemmas.Grind.{flat_map-append}
use Rattle.rc_config.specs.declared.network.Network.{Network}
use Rattle.rc_route.specs.Parts.{joined_parts}
use Rattle.rc_route.specs.declared.route.Route.{Route}
use Rattle.rc_report.specs.RouteText.{route_line}
use Rattle.rc_report.specs.StateText.{part_lines}

-- the lines of all parts are those of all routes
pub lines_of_parts : (net : Network) (parts : List (Arc (List Route) Global)) → flat_map (part_lines net) parts ≡ flat_map (route_line net) (joined_parts parts)
unfolding part_lines
lines_of_parts net [] = refl
lines_of_parts net (part ∷ parts) = ap (λ text. part_lines net part ++ text) (lines_of_parts net parts) ∙ sym (flat_map-append (route_line net) (arc_value part) (joined_parts parts))
