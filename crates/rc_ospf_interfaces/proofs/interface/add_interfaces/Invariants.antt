use Rattle.std.proofs.Common.{◌≡◌, ◌++◌, ◌-◌, length}
use Rattle.std.specs.List.{filter_map, range_with_len}
use Rattle.rc_ospf_interfaces.specs.Interfaces.{interface_at}
use Rattle.rc_ospf_interfaces.proofs.interface.add_interfaces.Given as goal

abbrev pub invariant-loop-index : goal.invariant-loop-index
invariant-loop-index l = l.all ++ filter_map (interface_at l.router l.file.interfaces l.process) (range_with_len l.index (length l.file.interfaces - l.index))
    ≡ l.initial.all ++ filter_map (interface_at l.router l.file.interfaces l.process) (range_with_len 0 (length l.file.interfaces))
