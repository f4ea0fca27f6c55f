use Rattle.std.proofs.Common.{◌≡◌, drop}
use Rattle.std.specs.List.{list_any}
use Rattle.rc_bgp.specs.Telling.{is_inside}
use Rattle.rc_bgp.proofs.telling.some_internal.Given as goal

abbrev pub invariant-loop-session : goal.invariant-loop-session
invariant-loop-session l = list_any is_inside (drop l.session-index l.sessions) ≡ list_any is_inside l.sessions
