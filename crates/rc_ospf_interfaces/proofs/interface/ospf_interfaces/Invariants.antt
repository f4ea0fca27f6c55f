use Rattle.std.proofs.Common.{◌≡◌, ◌++◌, ◌-◌, length}
use Rattle.std.specs.List.{flat_map, range_with_len}
use Rattle.rc_ospf_interfaces.specs.Interfaces.{interfaces_at}
use Rattle.rc_ospf_interfaces.proofs.interface.ospf_interfaces.Given as goal

abbrev pub invariant-loop-index : goal.invariant-loop-index
invariant-loop-index l = l.all ++ flat_map (interfaces_at l.net) (range_with_len l.index (length l.net.routers - l.index)) ≡ flat_map (interfaces_at l.net) (range_with_len 0 (length l.net.routers))
