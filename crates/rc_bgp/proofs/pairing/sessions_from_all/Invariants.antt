use Rattle.std.proofs.Common.{◌≡◌, ◌++◌, drop}
use Rattle.std.specs.List.{flat_map}
use Rattle.rc_bgp.specs.Sessions.{sessions_from, sessions_to}
use Rattle.rc_bgp.proofs.pairing.sessions_from_all.Given as goal

abbrev pub invariant-loop-from : goal.invariant-loop-from
invariant-loop-from l = l.all ++ flat_map (sessions_from l.links l.net l.to) (drop l.from-index l.senders) ≡ sessions_to l.links l.net l.senders l.to
