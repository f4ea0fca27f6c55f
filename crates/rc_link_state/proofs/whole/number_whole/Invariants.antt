use Rattle.std.proofs.Common.{◌≡◌, ◌+◌, ◌≤◌, drop, length, filter}
use Rattle.rc_link_state.specs.Whole.{is_whole}
use Rattle.rc_link_state.proofs.whole.number_whole.Given as goal

abbrev pub invariant-loop-i : goal.invariant-loop-i
invariant-loop-i l = (l.number + length (filter (is_whole l.links) (drop l.i-index l.members)) ≡ length (filter (is_whole l.links) l.members)) × (l.number ≤ l.i-index)
