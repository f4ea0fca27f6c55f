use Rattle.std.proofs.Common.{◌≡◌, take, map}
use Rattle.std.specs.List.{fold}
use Rattle.indexmap.specs.IndexSet.{insert_key}
use Rattle.rc_route.specs.Hops.{same_hop}
use Rattle.rc_fib.specs.Forwarding.{with_gateway}
use Rattle.rc_fib.proofs.resolve.insert_through.Given as goal

-- the hops so far are put
abbrev pub invariant-loop-hop : goal.invariant-loop-hop
invariant-loop-hop l = l.set ≡ fold (insert_key same_hop) l.initial.set (map (with_gateway l.gateway) (take l.hop-index l.through))
