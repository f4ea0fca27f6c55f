use Rattle.std.proofs.Common.{◌≡◌, drop}
use Rattle.std.specs.List.{fold}
use Rattle.std.specs.Ordering.{nat_cmp}
use Rattle.std.specs.BTreeSet.{keys, insert_key}
use Rattle.rc_bgp.proofs.learning.insert_all.Given as goal

abbrev pub invariant-loop-addr : goal.invariant-loop-addr
invariant-loop-addr l = fold (insert_key nat_cmp) (keys l.set) (drop l.addr-index l.addresses) ≡ fold (insert_key nat_cmp) (keys l.initial.set) l.addresses
