use Rattle.std.proofs.Common.{◌≡◌, map, take}
use Rattle.rc_bgp_decide.specs.Multipath.{place_of}
use Rattle.rc_bgp_decide.proofs.multipath.places_of.Given as goal

abbrev pub invariant-loop-turn : goal.invariant-loop-turn
invariant-loop-turn l = l.places.items ≡ map place_of (take l.turn-index l.turns)
