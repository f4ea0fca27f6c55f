use Rattle.std.proofs.Common.{◌≡◌, ◌++◌, map}
use Rattle.std.specs.BTreeSet.{keys}
use Rattle.rc_bgp.specs.Learning.{gateway}
use Rattle.rc_bgp.proofs.learning.gateways.Given as goal

abbrev pub invariant-loop-addr : goal.invariant-loop-addr
invariant-loop-addr l = l.hops ++ map gateway l.addr-iterator ≡ map gateway (keys l.fn.set)
