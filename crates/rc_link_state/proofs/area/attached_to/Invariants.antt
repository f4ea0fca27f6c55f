use Rattle.std.proofs.Common.{◌≡◌, ◌++◌, drop}
use Rattle.rc_link_state.specs.Areas.{attached_to}
use Rattle.rc_link_state.proofs.area.attached_to.Given as goal

abbrev pub invariant-loop-number : goal.invariant-loop-number
invariant-loop-number l = l.numbers ++ attached_to l.router l.number (drop l.number l.networks) ≡ attached_to l.router 0 l.networks
