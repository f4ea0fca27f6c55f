use Rattle.std.proofs.Common.{◌≡◌, ◌++◌, drop}
use Rattle.std.specs.List.{filter_map}
use Rattle.rc_bgp.specs.Sessions.{session_from, sessions_from}
use Rattle.rc_bgp.proofs.pairing.add_sessions_from.Given as goal

abbrev pub invariant-loop-addr : goal.invariant-loop-addr
invariant-loop-addr l = l.all ++ filter_map (session_from l.links l.net l.to l.from) (drop l.addr-index l.addr-items) ≡ l.initial.all ++ sessions_from l.links l.net l.to l.from
