use Rattle.std.proofs.Common.{◌≡◌, take, []}
use Rattle.std.specs.List.{fold, flat_map}
use Rattle.indexmap.specs.IndexSet.{insert_key}
use Rattle.rc_route.specs.Hops.{same_hop}
use Rattle.rc_fib.specs.Forwarding.{resolve_hop, resolved_hops}
use Rattle.rc_fib.proofs.resolve.resolve.Given as goal

-- the hops so far are resolved
abbrev pub invariant-loop-hop : goal.invariant-loop-hop
invariant-loop-hop l = l.set ≡ fold (insert_key same_hop) [] (flat_map (resolve_hop (resolved_hops l.fib)) (take l.hop-index l.hops))
