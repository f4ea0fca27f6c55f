use Rattle.std.proofs.Common.{◌≡◌, ◌++◌, ◌-◌, length, map}
use Rattle.std.specs.List.{range_with_len}
use Rattle.rc_bgp.specs.Speakers.{speaker_at}
use Rattle.rc_bgp.proofs.speaker.speakers.Given as goal

abbrev pub invariant-loop-index : goal.invariant-loop-index
invariant-loop-index l = l.all ++ map (speaker_at l.net) (range_with_len l.index (length l.net.routers - l.index)) ≡ map (speaker_at l.net) (range_with_len 0 (length l.net.routers))
