use Rattle.std.proofs.Common.{◌≡◌, ◌++◌, ◌-◌}
use Rattle.std.specs.List.{range_with_len}
use Rattle.rc_ospf.proofs.member.routers_below.Given as goal

abbrev pub invariant-loop-index : goal.invariant-loop-index
invariant-loop-index l = l.ids ++ range_with_len l.index (l.routers - l.index) ≡ range_with_len 0 l.routers
