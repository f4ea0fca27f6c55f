use Rattle.std.proofs.Common.{◌≡◌}
use Rattle.rc_rounds.proofs.ShareLaws.{empty_states}
use Rattle.rc_rounds.proofs.round.empty_state.Given as goal

abbrev pub invariant-loop : goal.invariant-loop
invariant-loop l = l.state ≡ empty_states l.counter
