use Rattle.std.proofs.Common.{◌≡◌, map, drop}
use Rattle.std.specs.List.{fold}
use Rattle.std.specs.BTreeSet.{keys, insert_key}
use Rattle.rc_base.specs.Lists.{in_order}
use Rattle.rc_base.specs.Prefix.{prefix_cmp}
use Rattle.rc_config.specs.Down.{prefix_of}
use Rattle.rc_topology.proofs.prefix_set.prefixes_of.Given as goal

abbrev pub invariant-loop-address : goal.invariant-loop-address
invariant-loop-address l = fold (insert_key prefix_cmp) (keys l.set) (map prefix_of (drop l.address-index l.addresses)) ≡ in_order prefix_cmp (map prefix_of l.addresses)
