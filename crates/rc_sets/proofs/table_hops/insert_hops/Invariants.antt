use Rattle.std.proofs.Common.{◌≡◌, drop}
use Rattle.std.specs.List.{fold}
use Rattle.std.specs.BTreeSet.{keys, insert_key}
use Rattle.rc_route.specs.Hops.{hop_cmp}
use Rattle.rc_sets.proofs.table_hops.insert_hops.Given as goal

-- what is left gives the same
abbrev pub invariant-loop-hop : goal.invariant-loop-hop
invariant-loop-hop l = fold (insert_key hop_cmp) (keys l.set) (drop l.hop-index l.hops) ≡ fold (insert_key hop_cmp) (keys l.fn.set) l.hops
