use Rattle.std.proofs.Common.{◌≡◌, ◌++◌, ◌-◌, length}
use Rattle.std.specs.List.{flat_map, range_with_len}
use Rattle.rc_bgp.specs.Speakers.{addresses_at}
use Rattle.rc_bgp.proofs.own_addresses.router_addresses.Given as goal

abbrev pub invariant-loop-index : goal.invariant-loop-index
invariant-loop-index l = l.own ++ flat_map (addresses_at l.router l.file.interfaces) (range_with_len l.index (length l.file.interfaces - l.index)) ≡ flat_map (addresses_at l.router l.file.interfaces) (range_with_len 0 (length l.file.interfaces))
