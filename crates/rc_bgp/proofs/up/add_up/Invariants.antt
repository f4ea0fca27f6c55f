use Rattle.std.proofs.Common.{◌≡◌, ◌++◌, drop}
use Rattle.std.specs.List.{filter}
use Rattle.rc_bgp.specs.Sessions.{is_up}
use Rattle.rc_bgp.proofs.up.add_up.Given as goal

abbrev pub invariant-loop-session : goal.invariant-loop-session
invariant-loop-session l = l.up ++ filter (is_up l.state) (drop l.session-index l.sessions) ≡ l.initial.up ++ filter (is_up l.state) l.sessions
