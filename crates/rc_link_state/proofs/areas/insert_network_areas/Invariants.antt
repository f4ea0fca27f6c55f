use Rattle.std.proofs.Common.{◌≡◌, drop, map}
use Rattle.std.specs.List.{fold}
use Rattle.std.specs.BTreeSet.{keys, insert_key}
use Rattle.std.specs.Ordering.{nat_cmp}
use Rattle.rc_link_state.specs.Asked.{network_area}
use Rattle.rc_link_state.proofs.areas.insert_network_areas.Given as goal

abbrev pub invariant-loop-network : goal.invariant-loop-network
invariant-loop-network l = fold (insert_key nat_cmp) (keys l.areas) (map network_area (drop l.network-index l.networks)) ≡ fold (insert_key nat_cmp) (keys l.initial.areas) (map network_area l.networks)
