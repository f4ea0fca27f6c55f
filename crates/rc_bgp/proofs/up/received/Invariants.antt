use Rattle.std.proofs.Common.{◌≡◌, ◌++◌, drop}
use Rattle.std.specs.Prelude.{◌==◌}
use Rattle.std.specs.List.{filter}
use Rattle.rc_bgp_session.specs.declared.session.Session.{Session}
use Rattle.rc_bgp.proofs.up.received.Given as goal

abbrev pub invariant-loop-session : goal.invariant-loop-session
invariant-loop-session l = l.here ++ filter (λ (s : Session). s.receiver == l.router) (drop l.session-index l.sessions) ≡ filter (λ (s : Session). s.receiver == l.router) l.sessions
