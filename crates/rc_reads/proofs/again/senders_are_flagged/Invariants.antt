use Rattle.std.proofs.Common.{◌≡◌, Some, take, true}
use Rattle.std.specs.Prelude.{slice_get}
use Rattle.std.specs.List.{AllByRecursion}
use Rattle.rc_bgp_session.specs.declared.session.Session.{Session}
use Rattle.rc_reads.proofs.again.senders_are_flagged.Given as goal

-- the flags of the senders so far are set
abbrev pub invariant-loop-session : goal.invariant-loop-session
invariant-loop-session l = AllByRecursion (λ (s : Session). slice_get l.flags s.sender ≡ Some true) (take l.session-index l.sessions)
