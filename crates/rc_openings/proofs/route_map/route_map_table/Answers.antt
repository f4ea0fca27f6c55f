use Rattle.std.proofs.Common.{refl}
use Rattle.rc_openings.specs.Groups.{letters}
use Rattle.rc_openings.specs.Words.{words_of}
use Rattle.rc_openings.specs.RouteMapOpenings.{route_map, route_map_forms, route_map_refused, route_map_ignored}
use Rattle.rc_openings.proofs.route_map.route_map_table.Goals as goal

pub returns : goal.returns
unfolding route_map route_map_forms route_map_refused route_map_ignored words_of letters
returns c = record {
  ones = refl;
  one_word = record { openings = refl; starts = refl; placed = refl };
  starred = record { index = record { openings = refl; starts = refl; placed = refl }; fronts = refl };
  more_words = record { index = record { openings = refl; starts = refl; placed = refl }; fronts = refl };
  three = refl;
}
