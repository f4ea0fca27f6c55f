use Rattle.std.proofs.Common.{◌≡◌, drop}
use Rattle.std.specs.List.{fold}
use Rattle.std.specs.BTreeSet.{keys, insert_key}
use Rattle.rc_base.specs.Prefix.{prefix_cmp}
use Rattle.rc_bgp.specs.Candidates.{prefixes_of}
use Rattle.rc_bgp.proofs.deciding.add_prefixes.Given as goal

abbrev pub invariant-loop-path : goal.invariant-loop-path
invariant-loop-path l = fold (insert_key prefix_cmp) (keys l.set) (prefixes_of (drop l.path-index l.paths)) ≡ fold (insert_key prefix_cmp) (keys l.initial.set) (prefixes_of l.paths)
