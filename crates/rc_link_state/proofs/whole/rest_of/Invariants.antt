use Rattle.std.proofs.Common.{◌≡◌, ◌++◌, not, drop, filter}
use Rattle.rc_link_state.specs.Whole.{is_whole}
use Rattle.rc_link_state.proofs.whole.rest_of.Given as goal

abbrev pub invariant-loop-i : goal.invariant-loop-i
invariant-loop-i l = l.made ++ filter (λ i. not (is_whole l.links i)) (drop l.i-index l.members) ≡ filter (λ i. not (is_whole l.links i)) l.members
