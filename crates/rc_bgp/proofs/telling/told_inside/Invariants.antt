use Rattle.std.proofs.Common.{◌≡◌, ◌++◌, ◌-◌, length, map}
use Rattle.std.specs.List.{range_with_len}
use Rattle.rc_bgp.specs.Telling.{listed_of, told_inside}
use Rattle.rc_bgp.proofs.telling.told_inside.Given as goal

abbrev pub invariant-loop-index : goal.invariant-loop-index
invariant-loop-index l = l.all ++ map (listed_of l.sessions l.state) (range_with_len l.index (length l.sessions - l.index)) ≡ told_inside l.sessions l.state
