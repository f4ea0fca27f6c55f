use Rattle.std.proofs.Common.{◌≡◌, drop}
use Rattle.std.specs.List.{fold}
use Rattle.rc_bgp.specs.Speakers.{greater, greatest}
use Rattle.rc_bgp.specs.declared.speaker.OwnAddr.{OwnAddr}
use Rattle.rc_bgp.proofs.own_addresses.greatest.Given as goal

abbrev pub invariant-loop-o : goal.invariant-loop-o
invariant-loop-o l = fold (λ known (o : OwnAddr). greater known o.addr) l.known (drop l.o-index l.own) ≡ greatest l.own
