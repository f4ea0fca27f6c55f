use Rattle.std.proofs.Common.{◌≡◌, drop}
use Rattle.std.specs.List.{fold, flat_map}
use Rattle.std.specs.Ordering.{nat_cmp}
use Rattle.std.specs.BTreeSet.{keys, insert_key}
use Rattle.rc_base.specs.Lists.{in_order}
use Rattle.rc_bgp.specs.Levels.{gateways_of}
use Rattle.rc_bgp.proofs.reaching.gateway_set.Given as goal

abbrev pub invariant-loop-addr : goal.invariant-loop-addr
invariant-loop-addr l = fold (insert_key nat_cmp) (keys l.set) (flat_map (gateways_of l.table) (drop l.addr-index l.addresses)) ≡ in_order nat_cmp (flat_map (gateways_of l.table) l.addresses)
