use Rattle.std.proofs.Common.{◌≡◌, drop}
use Rattle.std.specs.List.{fold}
use Rattle.std.specs.Ordering.{nat_cmp}
use Rattle.std.specs.BTreeSet.{keys, insert_key}
use Rattle.rc_bgp.specs.Levels.{gateways}
use Rattle.rc_bgp.proofs.reaching.add_gateways.Given as goal

abbrev pub invariant-loop-hop : goal.invariant-loop-hop
invariant-loop-hop l = fold (insert_key nat_cmp) (keys l.set) (gateways (drop l.hop-index l.hops)) ≡ fold (insert_key nat_cmp) (keys l.initial.set) (gateways l.hops)
