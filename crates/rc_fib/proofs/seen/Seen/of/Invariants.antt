use Rattle.std.proofs.Common.{◌≡◌, take, []}
use Rattle.std.specs.List.{fold}
use Rattle.indexmap.specs.IndexSet.{insert_key}
use Rattle.rc_route.specs.Hops.{same_hop}
use Rattle.rc_fib.proofs.seen.Seen.of.Given as goal

-- the hops so far are put
abbrev pub invariant-loop-hop : goal.invariant-loop-hop
invariant-loop-hop l = l.seen ≡ fold (insert_key same_hop) [] (take l.hop-index l.hops)
