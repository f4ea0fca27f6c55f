use Rattle.std.proofs.Common.{◌≡◌, drop}
use Rattle.std.specs.List.{fold}
use Rattle.std.specs.BTreeSet.{keys, insert_key}
use Rattle.rc_base.specs.Prefix.{prefix_cmp}
use Rattle.rc_bgp.specs.Candidates.{best_prefixes}
use Rattle.rc_bgp.proofs.deciding.add_prefixes_of_best.Given as goal

abbrev pub invariant-loop-best : goal.invariant-loop-best
invariant-loop-best l = fold (insert_key prefix_cmp) (keys l.set) (best_prefixes (drop l.best-index l.paths)) ≡ fold (insert_key prefix_cmp) (keys l.initial.set) (best_prefixes l.paths)
