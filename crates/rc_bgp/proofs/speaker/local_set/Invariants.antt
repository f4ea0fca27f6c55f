use Rattle.std.proofs.Common.{◌≡◌}
use Rattle.std.specs.List.{filter_map, fold}
use Rattle.std.specs.Ordering.{nat_cmp}
use Rattle.std.specs.BTreeSet.{keys, insert_key}
use Rattle.rc_bgp.specs.Speakers.{local_addresses, local_of}
use Rattle.rc_bgp.proofs.speaker.local_set.Given as goal

abbrev pub invariant-loop-neighbor : goal.invariant-loop-neighbor
invariant-loop-neighbor l = fold (insert_key nat_cmp) (keys l.set) (filter_map (local_of l.file.interfaces l.own) l.neighbor-iterator) ≡ local_addresses l.file.interfaces l.own l.process.neighbors
