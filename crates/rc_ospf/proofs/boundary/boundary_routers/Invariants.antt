use Rattle.std.proofs.Common.{◌≡◌, ◌++◌, ◌-◌, length, filter}
use Rattle.std.specs.List.{range_with_len}
use Rattle.rc_ospf.specs.Boundaries.{is_boundary}
use Rattle.rc_ospf.proofs.boundary.boundary_routers.Given as goal

abbrev pub invariant-loop-index : goal.invariant-loop-index
invariant-loop-index l = l.found ++ filter (is_boundary l.net) (range_with_len l.index (length l.net.routers - l.index)) ≡ filter (is_boundary l.net) (range_with_len 0 (length l.net.routers))
