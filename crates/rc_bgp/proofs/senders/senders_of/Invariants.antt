use Rattle.std.proofs.Common.{◌≡◌, take}
use Rattle.rc_bgp.specs.Listening.{tellers}
use Rattle.rc_bgp.proofs.senders.senders_of.Given as goal

abbrev pub invariant-loop-session : goal.invariant-loop-session
invariant-loop-session l = l.senders.items ≡ tellers l.net l.state (take l.session-index l.sessions)
