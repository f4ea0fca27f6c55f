use Rattle.std.proofs.Common.{◌≡◌, ◌++◌}
use Rattle.std.specs.BTreeSet.{keys}
use Rattle.rc_sets.proofs.table_hops.in_order.Given as goal

-- what is listed and what is left are all
abbrev pub invariant-loop-hop : goal.invariant-loop-hop
invariant-loop-hop l = l.hops ++ l.hop-iterator ≡ keys l.fn.set
