use Rattle.std.proofs.Common.{◌≡◌, drop}
use Rattle.std.specs.List.{flat_map, fold}
use Rattle.std.specs.BTreeSet.{keys, insert_key}
use Rattle.rc_base.specs.Prefix.{prefix_cmp}
use Rattle.rc_bgp.specs.Candidates.{prefixes_of}
use Rattle.rc_bgp.proofs.deciding.add_own.Given as goal

abbrev pub invariant-loop-paths : goal.invariant-loop-paths
invariant-loop-paths l = fold (insert_key prefix_cmp) (keys l.set) (flat_map prefixes_of (drop l.paths-index l.own)) ≡ fold (insert_key prefix_cmp) (keys l.initial.set) (flat_map prefixes_of l.own)
