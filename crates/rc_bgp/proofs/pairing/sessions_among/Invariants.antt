use Rattle.std.proofs.Common.{◌≡◌, ◌++◌, drop, map}
use Rattle.rc_bgp.specs.Sessions.{sessions_to}
use Rattle.rc_bgp.proofs.pairing.sessions_among.Given as goal

abbrev pub invariant-loop-to : goal.invariant-loop-to
invariant-loop-to l = l.all ++ map (sessions_to l.links l.net l.speakers) (drop l.to-index l.speakers) ≡ map (sessions_to l.links l.net l.speakers) l.speakers
