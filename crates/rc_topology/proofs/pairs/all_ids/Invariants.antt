use Rattle.std.proofs.Common.{◌≡◌}
use Rattle.std.specs.List.{flat_map, range_with_len}
use Rattle.rc_topology.specs.Links.{ids_of}
use Rattle.rc_topology.proofs.pairs.all_ids.Given as goal

abbrev pub invariant-loop-router : goal.invariant-loop-router
invariant-loop-router l = l.all ≡ flat_map (ids_of l.links) (range_with_len 0 l.router)
