use Rattle.std.proofs.Common.{◌≡◌, drop}
use Rattle.std.specs.List.{fold}
use Rattle.std.specs.BTreeSet.{keys, insert_key}
use Rattle.rc_base.specs.Prefix.{prefix_cmp}
use Rattle.rc_bgp.proofs.originating.insert_all.Given as goal

abbrev pub invariant-loop-prefix : goal.invariant-loop-prefix
invariant-loop-prefix l = fold (insert_key prefix_cmp) (keys l.set) (drop l.prefix-index l.prefixes) ≡ fold (insert_key prefix_cmp) (keys l.initial.set) l.prefixes
