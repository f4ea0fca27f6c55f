use Rattle.std.proofs.Common.{drop}
use Rattle.rc_bgp.proofs.AlikeLaws.{AreAlikeBut}
use Rattle.rc_bgp.proofs.same_inputs.are_heard_alike.Given as goal

abbrev pub invariant-loop-session : goal.invariant-loop-session
invariant-loop-session l = AreAlikeBut l.router l.earlier l.previous (drop l.session-index l.sessions) l.sessions
