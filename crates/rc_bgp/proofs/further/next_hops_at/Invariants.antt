use Rattle.std.proofs.Common.{◌≡◌, ◌++◌, drop}
use Rattle.rc_bgp_decide.specs.Multipath.{next_hops_at}
use Rattle.rc_bgp.proofs.further.next_hops_at.Given as goal

abbrev pub invariant-loop-place : goal.invariant-loop-place
invariant-loop-place l = l.hops ++ next_hops_at l.paths (drop l.place-index l.places) ≡ next_hops_at l.paths l.places
