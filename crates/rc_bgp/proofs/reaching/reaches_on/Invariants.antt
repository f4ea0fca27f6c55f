use Rattle.std.proofs.Common.{◌≡◌, ◌-◌}
use Rattle.std.specs.List.{list_any}
use Rattle.rc_bgp.specs.Reaching.{reaches}
use Rattle.rc_bgp.proofs.ReachLaws.{within}
use Rattle.rc_bgp.proofs.reaching.reaches_on.Given as goal

abbrev pub invariant-loop-depth : goal.invariant-loop-depth
invariant-loop-depth l = list_any (within l.table (16 - l._depth)) l.front.items ≡ reaches l.table l.fn.addr
