use Rattle.std.proofs.Common.{take}
use Rattle.rc_bgp.specs.Changes.{NothingChanged}
use Rattle.rc_bgp.proofs.round_paths.nothing_changed.Given as goal

abbrev pub invariant-loop-session : goal.invariant-loop-session
invariant-loop-session l = NothingChanged l.changes l.inside (take l.session-index l.sessions)
