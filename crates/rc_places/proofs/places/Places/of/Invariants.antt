use Rattle.std.proofs.Common.{◌≡◌, map}
use Rattle.std.specs.Prelude.{flat_map}
use Rattle.std.specs.List.{range_with_len}
use Rattle.rc_places.specs.Places.{positions_of, start_of}
use Rattle.rc_places.proofs.places.Places.of.Given as goal

abbrev pub invariant-loop-router : goal.invariant-loop-router
invariant-loop-router l = record {
  all : l.all.items ≡ flat_map (positions_of l.net) (range_with_len 0 l.router);
  starts : l.starts.items ≡ map (start_of l.net) (range_with_len 0 l.router);
}
